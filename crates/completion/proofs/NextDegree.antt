-- A degree that begins.
use Rattle.std.proofs.Common.{◌≡◌, ◌⊎◌, ⊎_elim, ℕ, suc, ◌+◌, ◌<◌, ◌≤◌, refl, sym, ◌∙◌, ap, subst, List, [], length, Bool, true, false, arith, inl, get_or}
use Rattle.std.specs.Prelude.{map, max, All, Contains, None, IfSome, OnErr, Result}
use Rattle.std.specs.List.{range_with_len}
use Rattle.std.proofs.lemmas.List.Elements.{All-append, All-map, All-weaker}
use Rattle.std.proofs.lemmas.List.FromFn.{get_or-range_with_len, length-range_with_len}
use Rattle.word_field.specs.Field.{FieldOps}
use Rattle.monomial_order.specs.MonomialOrder.{MonomialOrder}
use Rattle.monomial_order.specs.laws.Lists.{contains_at, contains_left, contains_map, contains_none, contains_right}
use Rattle.degree_queue.specs.DegreeQueue.{list_of, SameElsewhere}
use Rattle.polynomials.specs.Subalgebra.{Presented, IsReducedBasis}
use Rattle.poly_core.specs.Presentation.{presented, IsValid}
use Rattle.toric_ideal.specs.Listing.{Listing}
use Rattle.quotient_gb.specs.Quotient.{closing_max}
use Rattle.witness.specs.declared.tracked.Tracked.{Tracked}
use Rattle.witness.specs.Tracking.{values_of}
use Rattle.word_values.specs.Values.{AreValues, AreWordsTo}
use Rattle.subduction.specs.Basis.{BasisState, AreInParts, IsBasisOf}
use Rattle.completion.specs.declared.candidates.Candidate.{Candidate}
use Rattle.completion.specs.declared.candidates.Candidate.TheVariants.{Generator, Word}
use Rattle.completion.specs.declared.candidates.Found.{Found}
use Rattle.completion.specs.Candidates.{AreCandidates, AreWordsAt, IsCandidate, IsGeneratorAt}
use Rattle.completion.specs.Completion.{AreKept, CompletionState, IsAtDegree, IsCompletion, IsInDegree, IsStanding, IsUnchanged}
use Rattle.completion.specs.Relations.{AreRelations}
use Rattle.tete_lift.specs.Lifting.{IsRightSide}
use Rattle.completion.proofs.Kept.{kept_moved, kept_same, on_err, parts_at_degree, unchanged_moved}

range_has : (n j : ℕ) → j < n → Contains (range_with_len 0 n) j
range_has n j l =
    let e = length-range_with_len 0 n in
    let same : 0 + j ≡ j = omega arith in
    subst (Contains (range_with_len 0 n)) (get_or-range_with_len 0 n j j l ∙ same) (contains_at (range_with_len 0 n) j j (omega arith))

range_below : (n : ℕ) → All (λ j. j < n) (range_with_len 0 n)
range_below n i d l = let e = length-range_with_len 0 n in let k = get_or-range_with_len 0 n i d (omega arith) in omega arith

module _ {E : Type 0} (P : Presented E) (d n : ℕ) (pending : List Candidate) (C : AreCandidates P d n pending) where
  all_candidates : All (IsCandidate P d n) pending
  all_candidates =
      subst (All (IsCandidate P d n)) (sym C.whole)
      (All-append (IsCandidate P d n) (map Generator C.generators) (map Word (range_with_len 0 n))
      (All-map (IsCandidate P d n) Generator C.generators (λ i x l. (C.exactly (get_or C.generators i x)).0 (contains_at C.generators i x l)))
      (All-map (IsCandidate P d n) Word (range_with_len 0 n) (range_below n)))

  has_generator : (i : ℕ) → IsGeneratorAt P d i → Contains pending (Generator i)
  has_generator i g =
      subst (λ cs. Contains cs (Generator i)) (sym C.whole)
      (contains_left (map Generator C.generators) (map Word (range_with_len 0 n)) (Generator i) (contains_map Generator C.generators i ((C.exactly i).1 g)))

  has_word : (j : ℕ) → j < n → Contains pending (Word j)
  has_word j l =
      subst (λ cs. Contains cs (Word j)) (sym C.whole)
      (contains_right (map Generator C.generators) (map Word (range_with_len 0 n)) (Word j) (contains_map Word (range_with_len 0 n) j (range_has n j l)))

module _ {F O E : Type 0} (P : Presented E) (s : CompletionState F O E) (S : IsStanding P s) (closed : s.begun ≡ false)
    (b : BasisState F E) (B : IsBasisOf P b) (same : b.elements ≡ s.basis.elements) (small : b.quotient.degree ≤ closing_max)
    (queue : List (List Candidate)) (others : SameElsewhere (suc s.degree) s.queue queue) (found : List (Found F E)) where
  at_elements : (Q : List (Tracked F E) → Type 0) → Q s.basis.elements → Q b.elements
  at_elements Q q = subst Q (sym same) q

  none_later : (d : ℕ) → suc s.degree < d → list_of queue d ≡ []
  none_later d l = others d (λ e. absurd (omega arith)) ∙ S.none_later d l

  -- what does not depend on whether the degree is begun
  next_standing : (flag : Bool) → (flag ≡ false → IsAtDegree P (record s { basis = b; begun = flag; queue = queue; found = found })) →
      (flag ≡ true → IsInDegree P (record s { basis = b; begun = flag; queue = queue; found = found })) → IsStanding P (record s { basis = b; begun = flag; queue = queue; found = found })
  next_standing flag at_degree in_degree = record {
    basis = B;
    small = small;
    values = at_elements (λ ts. AreValues P (values_of ts) s.values) S.values;
    kept = at_elements (λ ts. AreWordsTo P (values_of ts) s.kept s.values) S.kept;
    short = λ t k. S.short t (subst (λ ts. Contains ts t) same k);
    none_later = none_later;
    at_degree = at_degree;
    in_degree = in_degree;
  }

  -- the quotient and the words may go one degree further
  further_standing : (s.degree ≤ b.words.degree) × (b.words.degree ≤ suc s.degree) → b.quotient.degree ≤ suc s.degree → list_of queue (suc s.degree) ≡ [] →
      IsStanding P (record s { basis = b; queue = queue; found = found })
  further_standing words quotient none =
      let a = S.at_degree closed in
      next_standing s.begun
      (λ _. record {
        reduced = at_elements (λ ts. IsReducedBasis P s.degree (values_of ts)) a.reduced;
        relations = at_elements (λ ts. AreRelations P (values_of ts) s.degree s.relations) a.relations;
        words = words;
        quotient = quotient;
        none_pending = none;
      })
      (λ e. cc)

  -- all candidates of the next degree wait
  begun_standing : b.words.degree ≡ suc s.degree → b.quotient.degree ≤ suc s.degree → AreWordsAt P (values_of b.elements) b.words.degree (map (λ f. f.word) found) → All (λ f. f.right ≡ None) found →
      AreCandidates P (suc s.degree) (length found) (list_of queue (suc s.degree)) →
      IsStanding P (record s { basis = b; begun = true; queue = queue; found = found })
  begun_standing degree quotient words rights candidates =
      let a = S.at_degree closed in
      next_standing true (λ e. cc)
      (λ _. record {
        lower = b.elements;
        last = [];
        parts = at_elements (λ ts. AreInParts P (suc s.degree) ts ts []) (parts_at_degree P s a);
        reduced = at_elements (λ ts. IsReducedBasis P s.degree (values_of ts)) a.reduced;
        fresh = λ t k. absurd (contains_none t k);
        relations = at_elements (λ ts. AreRelations P (values_of ts) s.degree s.relations) a.relations;
        degree = degree;
        quotient = quotient;
        words = subst (λ d. AreWordsAt P (values_of b.elements) d (map (λ f. f.word) found)) degree words;
        rights = All-weaker (λ (f : Found F E). f.right ≡ None) (λ (f : Found F E). IfSome f.right (IsRightSide P (values_of b.elements) f.word))
            (λ f e. subst (λ r. IfSome r (IsRightSide P (values_of b.elements) f.word)) (sym e) tt) found rights;
        pending = all_candidates P (suc s.degree) (length found) (list_of queue (suc s.degree)) candidates;
        generators = λ i g. inl (has_generator P (suc s.degree) (length found) (list_of queue (suc s.degree)) candidates i g);
        word_values = λ j l. inl (has_word P (suc s.degree) (length found) (list_of queue (suc s.degree)) candidates j l);
      })

-- A completion at a closed degree whose state is also called t: what beginning the next degree asks for and gives.
module _ {F O E : Type 0} (ops : F → FieldOps E) (order : O → MonomialOrder) (s t : CompletionState F O E) (state : s ≡ t) (completion : IsCompletion ops order t) (not_begun : t.begun ≡ false) where
  abbrev P : Presented E
  P = presented ops order s.presentation

  C : IsCompletion ops order s
  C = subst (IsCompletion ops order) (sym state) completion

  closed : s.begun ≡ false
  closed = ap (λ (x : CompletionState F O E). x.begun) state ∙ not_begun

  A : IsAtDegree P s
  A = (C.standing).at_degree closed

  one : s.degree + 1 ≡ suc s.degree
  one = omega arith

  pub next_presentation : IsValid ops order s.presentation
  next_presentation = C.presentation

  pub next_basis : IsBasisOf P s.basis
  next_basis = (C.standing).basis

  pub next_empty : list_of s.queue (s.degree + 1) ≡ []
  next_empty = ap (list_of s.queue) one ∙ A.none_pending

  -- the candidates of the next degree
  pub next_candidates : (queue : List (List Candidate)) (n k : ℕ) → n ≡ k → AreCandidates P (s.degree + 1) n (list_of queue (s.degree + 1)) →
      AreCandidates (presented ops order t.presentation) (suc t.degree) k (list_of queue (suc s.degree))
  next_candidates queue n k e h =
      subst (λ (x : CompletionState F O E). AreCandidates (presented ops order x.presentation) (suc x.degree) k (list_of queue (suc s.degree))) state
      (subst (λ i. AreCandidates P i k (list_of queue i)) one (subst (λ i. AreCandidates P (s.degree + 1) i (list_of queue (s.degree + 1))) e h))

  module _ (b : BasisState F E) (same : b.elements ≡ s.basis.elements) where
    pub next_kept : (flag : Bool) (queue : List (List Candidate)) (found : List (Found F E)) →
        AreKept (presented ops order t.presentation) t (record s { basis = b; begun = flag; queue = queue; found = found })
    next_kept flag queue found =
        kept_moved s t (record s { basis = b; begun = flag; queue = queue; found = found }) ops order state
        (kept_same P s (record s { basis = b; begun = flag; queue = queue; found = found }) refl refl same refl)

    pub next_unchanged : {T X : Type 0} (r : Result T X) (queue : List (List Candidate)) (found : List (Found F E)) → list_of queue (s.degree + 1) ≡ [] →
        OnErr r (IsUnchanged t (record s { basis = b; queue = queue; found = found }))
    next_unchanged r queue found none =
        on_err r (IsUnchanged t (record s { basis = b; queue = queue; found = found }))
        (unchanged_moved s t (record s { basis = b; queue = queue; found = found }) state (record {
          presentation = refl;
          degree = refl;
          read = refl;
          begun = refl;
          elements = same;
          relations = refl;
          pending = subst (λ n. list_of queue n ≡ list_of s.queue n) one (none ∙ sym next_empty);
        }))

    module _ (B : IsBasisOf P b) (low : t.degree < closing_max) where
      low_here : s.degree < closing_max
      low_here = let e = ap (λ (x : CompletionState F O E). x.degree) state in omega arith

      -- memory ran out before the words go on
      pub stopped_completion : ((b.quotient.degree ≡ s.basis.quotient.degree) ⊎ (b.quotient.degree ≡ s.degree + 1)) × (b.words ≡ s.basis.words) → IsCompletion ops order (record s { basis = b })
      stopped_completion m =
          let top : s.basis.quotient.degree ≤ closing_max = (C.standing).small in
          let quotient : s.basis.quotient.degree ≤ suc s.degree = A.quotient in
          let l : s.degree < closing_max = low_here in
          record {
            presentation = C.presentation;
            standing = further_standing P s C.standing closed b B same (⊎_elim (λ e. omega arith) (λ e. omega arith) m.0) s.queue (λ d n. refl) s.found
                (subst (λ (w : Listing). (s.degree ≤ w.degree) × (w.degree ≤ suc s.degree)) (sym m.1) A.words) (⊎_elim (λ e. omega arith) (λ e. omega arith) m.0) A.none_pending;
          }

      module _ (quotient : b.quotient.degree ≡ max s.basis.quotient.degree (s.degree + 1)) (words : b.words.degree ≡ max s.basis.words.degree (s.degree + 1)) where
        small : b.quotient.degree ≤ closing_max
        small = let l : s.basis.quotient.degree ≤ suc s.degree = A.quotient in let k = low_here in omega arith

        words_are : b.words.degree ≡ suc s.degree
        words_are = let l : s.basis.words.degree ≤ suc s.degree = A.words.1 in omega arith

        top : b.quotient.degree ≤ suc s.degree
        top = let l : s.basis.quotient.degree ≤ suc s.degree = A.quotient in omega arith

        moved : (queue : List (List Candidate)) → SameElsewhere (s.degree + 1) s.queue queue → SameElsewhere (suc s.degree) s.queue queue
        moved queue others = subst (λ n. SameElsewhere n s.queue queue) one others

        pub further_completion : (queue : List (List Candidate)) → SameElsewhere (s.degree + 1) s.queue queue → list_of queue (s.degree + 1) ≡ [] → IsCompletion ops order (record s { basis = b; queue = queue })
        further_completion queue others none = record {
          presentation = C.presentation;
          standing = further_standing P s C.standing closed b B same small queue (moved queue others) s.found
              (let e = words_are in (omega arith, omega arith)) top (subst (λ n. list_of queue n ≡ []) one none);
        }

        pub begun_completion : (queue : List (List Candidate)) → SameElsewhere (s.degree + 1) s.queue queue → (found : List (Found F E)) →
            AreWordsAt P (values_of b.elements) b.words.degree (map (λ f. f.word) found) → All (λ f. f.right ≡ None) found → (n : ℕ) → n ≡ length found →
            AreCandidates P (s.degree + 1) n (list_of queue (s.degree + 1)) → IsCompletion ops order (record s { basis = b; begun = true; queue = queue; found = found })
        begun_completion queue others found at rights n e candidates = record {
          presentation = C.presentation;
          standing = begun_standing P s C.standing closed b B same small queue (moved queue others) found words_are top at rights
              (subst (λ i. AreCandidates P i (length found) (list_of queue i)) one (subst (λ i. AreCandidates P (s.degree + 1) i (list_of queue (s.degree + 1))) e candidates));
        }
