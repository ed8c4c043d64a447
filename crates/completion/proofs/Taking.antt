-- A completion in a degree, after elements are added and after a candidate is taken.
use Rattle.std.proofs.Common.{◌≡◌, ◌≢◌, ℕ, zero, suc, ◌+◌, ◌<◌, ◌≤◌, refl, sym, ◌∙◌, ap, subst, List, [], ◌∷◌, ◌++◌, append-nil, append_assoc, length, length-append, get_or, take, drop, inl, inr, ◌⊎◌, ⊎_elim, arith, true, false}
use Rattle.std.specs.Prelude.{map, max, remove, slice_get, slice_set, All, AllPairs, Contains, OnOk, Result, Some, IfSome}
use Rattle.std.proofs.lemmas.Grind.{in_remove}
use Rattle.std.proofs.lemmas.List.{length-map, map-append, get_or-append-add, get_or-map}
use Rattle.std.proofs.lemmas.List.Elements.{All-append, All-contains, All-drop, All-get_or, All-set, All-take}
use Rattle.std.proofs.lemmas.Option.{get_or_from_slice_get, slice_get_within}
use Rattle.std.proofs.lemmas.Result.{on_ok_weaker}
use Rattle.word_field.specs.Field.{FieldOps}
use Rattle.degree_queue.specs.DegreeQueue.{list_of, SameElsewhere}
use Rattle.monomial_order.specs.Monomial.{Exponents}
use Rattle.monomial_order.specs.MonomialOrder.{MonomialOrder}
use Rattle.monomial_order.specs.laws.Comparing.{le_or_not}
use Rattle.monomial_order.specs.laws.Lists.{contains_at, contains_either, contains_left, contains_right}
use Rattle.word_laws.specs.Words.{IsWord, Letters}
use Rattle.polynomials.specs.Polynomial.{Polynomial, coefficient, degree_of, lead_monomial, IsPoly}
use Rattle.polynomials.specs.Subalgebra.{Presented, IsPresentation, HasDegreesTo, IsGenerated}
use Rattle.monomial_order.specs.laws.Lists.{map_contains}
use Rattle.poly_core.specs.Presentation.{presented}
use Rattle.quotient_gb.specs.Quotient.{closing_max, QuotientState}
use Rattle.subalgebra_laws.specs.Bases.{AreMonicElements, AreStandardAfter}
use Rattle.subalgebra_laws.specs.Statements.{ForStandardElements, MinimalWordsStay, ValuesStay}
use Rattle.subalgebra_laws.specs.Words.{letters, word_value, IsCombination, IsMinimalWord}
use Rattle.subalgebra_laws.specs.laws.Letters.{degree_stays}
use Rattle.subalgebra_laws.specs.laws.Members.{generator_poly}
use Rattle.witness.specs.declared.tracked.Tracked.{Tracked}
use Rattle.witness.specs.Tracking.{values_of}
use Rattle.word_values.specs.Values.{word_degree, Table, AreHomogeneousElements, AreValues, AreWordsTo}
use Rattle.subduction.specs.Basis.{BasisState, AreInParts}
use Rattle.subduction.specs.laws.Elements.{homogeneous_elements, monic_elements}
use Rattle.completion.specs.declared.candidates.Candidate.{Candidate}
use Rattle.completion.specs.declared.candidates.Candidate.TheVariants.{Generator, Word}
use Rattle.completion.specs.declared.candidates.Found.{Found}
use Rattle.completion.specs.Candidates.{AreWordsAt, IsCandidate, IsGeneratorAt}
use Rattle.completion.specs.Completion.{elements_of, pending_of, AreKept, AreShortAbove, CompletionState, IsCompletion, IsGrown, IsInDegree, IsStanding}
use Rattle.subduction.specs.laws.Parts.{generated_more}
use Rattle.completion.specs.Insertion.{IsInserted}
use Rattle.tete_lift.specs.Lifting.{IsRightSide}
use Rattle.completion.specs.Taking.{IsTreated}
use Rattle.completion.proofs.Inserting.{values_grown}
use Rattle.completion.proofs.WordDegrees.{word_value_graded, word_value_poly}

-- a member that is not at the index stays when that is taken out
stays_or_at : {A : Type 0} (xs : List A) (k : ℕ) (x : A) → k < length xs → Contains xs x → Contains (remove xs k) x ⊎ (get_or xs k x ≡ x)
stays_or_at xs k x l h =
    let at = h.2 in
    let place = h.1 in
    ⊎_elim (λ e. inr (subst (λ i. get_or xs i x ≡ x) e at)) (λ n. inl (in_remove xs k h.0 x l place (sym at) n).1) (same_or_not h.0 k)
  where
    same_or_not : (i j : ℕ) → (i ≡ j) ⊎ (i ≢ j)
    same_or_not zero zero = inl refl
    same_or_not zero (suc j) = inr (λ e. absurd (omega arith))
    same_or_not (suc i) zero = inr (λ e. absurd (omega arith))
    same_or_not (suc i) (suc j) = ⊎_elim (λ e. inl (omega arith)) (λ n. inr (λ e. n (omega arith))) (same_or_not i j)

-- the words stay if one of them gets another right side
set_words : {F E : Type 0} (fs : List (Found F E)) (j : ℕ) (old new : Found F E) → j < length fs → old ≡ get_or fs j old → new.word ≡ old.word →
    map (λ (f : Found F E). f.word) (slice_set fs j new) ≡ map (λ (f : Found F E). f.word) fs
set_words [] j old new l h e = absurd (omega arith)
set_words {F} {E} (f ∷ fs) zero old new l h e = ap (λ w. w ∷ map (λ (x : Found F E). x.word) fs) (e ∙ ap (λ (x : Found F E). x.word) h)
set_words {F} {E} (f ∷ fs) (suc j) old new l h e = ap (λ ws. f.word ∷ ws) (set_words fs j old new (omega arith) h e)

-- the completion with other elements, values and right sides, or with another queue
abbrev pub with_elements : {F Q E : Type 0} → CompletionState F Q E → BasisState F E → Table E → ℕ → List (Found F E) → CompletionState F Q E
with_elements s b v n found = record s { basis = b; values = v; kept = n; found = found }

abbrev pub with_queue : {F Q E : Type 0} → CompletionState F Q E → List (List Candidate) → CompletionState F Q E
with_queue s queue = record s { queue = queue }

module _ {F Q E : Type 0} (P : Presented E) (H : IsPresentation P) (s : CompletionState F Q E) (standing : IsStanding P s) (begun : s.begun ≡ true) where
  open P use {field as K, order as O}

  abbrev at : IsInDegree P s
  at = standing.in_degree begun

  abbrev d : ℕ
  d = suc s.degree

  abbrev lower : List (Tracked F E)
  lower = at.lower

  abbrev last : List (Tracked F E)
  last = at.last

  abbrev words_of : List (Found F E) → List Exponents
  words_of fs = map (λ (f : Found F E). f.word) fs

  abbrev word_at : ℕ → Exponents
  word_at j = get_or (words_of s.found) j []

  values_parts : elements_of s ≡ values_of lower ++ values_of last
  values_parts = values_grown lower s.basis.elements last (at.parts).whole

  lower_homogeneous : AreHomogeneousElements P (values_of lower)
  lower_homogeneous x k =
      homogeneous_elements P H s.basis standing.basis x (subst (λ V. Contains V x) (sym values_parts) (contains_left (values_of lower) (values_of last) x k))

  -- the words of the degree
  word_found : (j : ℕ) → j < length s.found → Contains (words_of s.found) (word_at j)
  word_found j l = contains_at (words_of s.found) j [] (let e = length-map s.found (λ (f : Found F E). f.word) in omega arith)

  -- the values that are kept, to a degree that is not less than that of the words
  kept_to : (n : ℕ) → n ≡ max s.kept (s.degree + 1) → (s.basis.words.degree ≤ n) × AreWordsTo P (elements_of s) n s.values
  kept_to n e = (
    let k = at.degree in omega arith,
    λ w v h. let k = standing.kept w v h in omega arith,
  )

  word_is : (j : ℕ) (r : Found F E) → j < length s.found → r ≡ get_or s.found j r → word_at j ≡ r.word
  word_is j r l h = get_or-map (λ (f : Found F E). f.word) s.found j r [] l ∙ ap (λ (f : Found F E). f.word) (sym h)

  -- the elements of the last degree come after the others
  lead_found : (x : Polynomial E) → Contains (elements_of s) x → coefficient K x (lead_monomial x) ≢ K.zero
  lead_found x k z = (H.field).one_not_zero (sym (monic_elements P H s.basis standing.basis x k).monic ∙ z)

  is_last : (x : Polynomial E) → Contains (values_of last) x → Contains (elements_of s) x
  is_last x k = subst (λ V. Contains V x) (sym values_parts) (contains_right (values_of lower) (values_of last) x k)

  last_degree : (x : Polynomial E) → Contains (values_of last) x → degree_of O x ≡ d
  last_degree x k =
      let r = map_contains (λ (t : Tracked F E). t.value) last x k in
      subst (λ y. degree_of O y ≡ d) r.2 (All-contains (λ (t : Tracked F E). degree_of O t.value ≡ d) last r.0 (at.parts).last_equal r.1)

  last_new : (x : Polynomial E) → Contains (values_of last) x → ¬ IsGenerated (map lead_monomial (values_of lower)) (lead_monomial x)
  last_new x k =
      let r = map_contains (λ (t : Tracked F E). t.value) last x k in
      let f : (m : Exponents) → coefficient K x m ≢ K.zero → ¬ IsGenerated (map lead_monomial (values_of lower)) m = subst (λ y. (m : Exponents) → coefficient K y m ≢ K.zero → ¬ IsGenerated (map lead_monomial (values_of lower)) m) r.2 (at.fresh r.0 r.1) in
      f (lead_monomial x) (lead_found x (is_last x k))

  leads_are : (s.basis.words.letters).leads ≡ map lead_monomial (values_of lower) ++ map lead_monomial (values_of last)
  leads_are =
      ap (λ (l : Letters). l.leads) (standing.basis).letters ∙ (ap (map lead_monomial) values_parts ∙ map-append lead_monomial (values_of lower) (values_of last))

  apart : AllPairs (λ m n. m ≢ n) (map lead_monomial (values_of lower) ++ map lead_monomial (values_of last))
  apart = subst (AllPairs (λ m n. m ≢ n)) leads_are ((standing.basis).words).distinct

  below_differs : (i j : ℕ) → i < j → j < length (values_of last) → lead_monomial (get_or (values_of last) i []) ≡ lead_monomial (get_or (values_of last) j []) → ⊥
  below_differs i j l h e =
      let M = map lead_monomial (values_of lower) in
      let N = map lead_monomial (values_of last) in
      let n : length N ≡ length (values_of last) = length-map (values_of last) lead_monomial in
      apart (length M + i) (length M + j) [] (omega arith) (let a = length-append M N in omega arith)
      (get_or-append-add M N i [] ∙ (get_or-map lead_monomial (values_of last) i [] [] (omega arith) ∙ (e ∙ sym (get_or-append-add M N j [] ∙ get_or-map lead_monomial (values_of last) j [] [] h))))

  after_lower : AreStandardAfter P d (values_of lower) (values_of last)
  after_lower = record {
    after = record {
      monic = subst (AreMonicElements P) values_parts (monic_elements P H s.basis standing.basis);
      degree = λ x k. let e = last_degree x k in omega arith;
      new = last_new;
    };
    standard = λ x k. (homogeneous_elements P H s.basis standing.basis x (is_last x k)).standard (lead_monomial x) (lead_found x (is_last x k));
    differ = λ i j li lj e. ⊎_elim (λ l. ⊎_elim (λ k. omega arith) (λ n. absurd (below_differs i j (omega arith) lj e)) (le_or_not j i)) (λ n. absurd (below_differs j i (omega arith) li (sym e))) (le_or_not i j);
  }

  -- so the words of the degree are minimal over all elements
  module _ (minimal : ForStandardElements E MinimalWordsStay) (j : ℕ) (l : j < length s.found) where
    abbrev u : Exponents
    u = word_at j

    here : IsMinimalWord P (values_of lower) u × (word_degree P (values_of lower) u ≡ d)
    here = ((at.words).exactly u).0 (word_found j l)

    word_over_lower : IsWord (letters P (values_of lower)) u
    word_over_lower = ((here.0).0).word

    degree_over : word_degree P (values_of lower ++ values_of last) u ≡ d
    degree_over = degree_stays P (values_of lower) (values_of last) u word_over_lower.within ∙ here.1

    word_degree_is : word_degree P (elements_of s) u ≡ s.basis.words.degree
    word_degree_is = ap (λ S. word_degree P S u) values_parts ∙ (degree_over ∙ sym at.degree)

    word_minimal : IsMinimalWord P (elements_of s) u
    word_minimal =
        subst (λ S. IsMinimalWord P S u) (sym values_parts)
        ((minimal P (values_of lower) (values_of last) d H after_lower u (let e = degree_over in omega arith)).1 here.0)

  -- one of the words gets another right side
  module _ (j : ℕ) (old new : Found F E) (l : j < length s.found) (h : old ≡ get_or s.found j old) (e : new.word ≡ old.word) where
    words_stay : words_of (slice_set s.found j new) ≡ words_of s.found
    words_stay = set_words s.found j old new l h e

    abbrev HasRight : Found F E → Type 0
    HasRight f = IfSome f.right (IsRightSide P (values_of lower) f.word)

    rights_stay : (HasRight old → HasRight new) → All HasRight (slice_set s.found j new)
    rights_stay k = All-set HasRight s.found j new (k (subst HasRight (sym h) (All-get_or HasRight s.found j old l at.rights))) at.rights

  parts_at : AreInParts P s.basis.words.degree s.basis.elements lower last
  parts_at = subst (λ n. AreInParts P n s.basis.elements lower last) (sym at.degree) at.parts

  module _ (b : BasisState F E) (v : Table E) (n : ℕ) (to : n ≡ max s.kept (s.degree + 1)) (I : IsInserted P s.basis s.values b v) (found : List (Found F E))
      (words : words_of found ≡ words_of s.found) (rights : All (λ f. IfSome f.right (IsRightSide P (values_of lower) f.word)) found) where
    open I use {degree, quotient, short}

    abbrev added : CompletionState F Q E
    added = with_elements s b v n found

    grown : IsGrown P d s.basis.elements b.elements
    grown = subst (λ n. IsGrown P n s.basis.elements b.elements) at.degree I.grown

    abbrev more : List (Tracked F E)
    more = grown.more

    values_more : values_of b.elements ≡ elements_of s ++ values_of more
    values_more = values_grown s.basis.elements b.elements more grown.whole

    more_degree : (t : Tracked F E) → Contains more t → degree_of O t.value ≡ d
    more_degree t k = All-contains (λ (u : Tracked F E). degree_of O u.value ≡ d) more t grown.degrees k

    either : (t : Tracked F E) → Contains b.elements t → Contains s.basis.elements t ⊎ Contains more t
    either t k = contains_either s.basis.elements more t (subst (λ ts. Contains ts t) grown.whole k)

    still_short : AreShortAbove P s.read b.elements
    still_short t k l = ⊎_elim (λ o. standing.short t o l)
        (λ m.
        let e = more_degree t m in
        let n = at.degree in
        short (λ u i f. standing.short u i (omega arith)) t k (omega arith)) (either t k)

    parts : AreInParts P d b.elements lower (last ++ more)
    parts = record {
      whole = grown.whole ∙ (ap (λ ts. ts ++ more) (at.parts).whole ∙ append_assoc lower last more);
      lower_less = (at.parts).lower_less;
      last_equal = All-append (λ (u : Tracked F E). degree_of O u.value ≡ d) last more (at.parts).last_equal grown.degrees;
    }

    fresh : (t : Tracked F E) → Contains (last ++ more) t → (m : Exponents) → coefficient K t.value m ≢ K.zero → ¬ IsGenerated (map lead_monomial (values_of lower)) m
    fresh t k m n g = ⊎_elim (λ i. at.fresh t i m n g)
        (λ i. grown.fresh t i m n
        (subst (λ M. IsGenerated M m) (sym (ap (map lead_monomial) values_parts ∙ map-append lead_monomial (values_of lower) (values_of last)))
        (generated_more (map lead_monomial (values_of lower)) (map lead_monomial (values_of last)) m g))) (contains_either last more t k)

    same_number : length found ≡ length s.found
    same_number = let a = length-map found (λ (f : Found F E). f.word) in let c = length-map s.found (λ (f : Found F E). f.word) in let e = ap length words in omega arith

    stay : (a : Polynomial E) → IsPoly K O.places a → HasDegreesTo P d a → IsCombination P (elements_of s) a → IsCombination P (values_of b.elements) a
    stay a p l c = subst (λ S. IsCombination P S a) (sym values_more) (grown.stay a p l c)

    generator_stays : (i : ℕ) → IsGeneratorAt P d i → IsCombination P (elements_of s) (get_or P.generators i []) → IsCombination P (values_of b.elements) (get_or P.generators i [])
    generator_stays i g = stay (get_or P.generators i []) (generator_poly P H (get_or P.generators i []) (contains_at P.generators i [] g.0)) (λ m n. let e = g.1.each m n in omega arith)

    word_stays : (j : ℕ) → j < length s.found → (let a = word_value P (values_of lower) (word_at j) in IsCombination P (elements_of s) a → IsCombination P (values_of b.elements) a)
    word_stays j l = stay (word_value P (values_of lower) (word_at j)) (word_value_poly P H (values_of lower) lower_homogeneous (word_at j))
        (λ m n.
        let e = word_value_graded P H (values_of lower) lower_homogeneous (word_at j) m n in
        let w = (((at.words).exactly (word_at j)).0 (word_found j l)).1 in omega arith)

    in_degree : IsInDegree P added
    in_degree = record {
      lower = lower;
      last = last ++ more;
      parts = parts;
      reduced = at.reduced;
      fresh = fresh;
      relations = at.relations;
      degree = degree ∙ at.degree;
      quotient = subst (λ (q : QuotientState E). q.degree ≤ suc s.degree) (sym quotient) at.quotient;
      words = subst (AreWordsAt P (values_of lower) d) (sym words) at.words;
      rights = rights;
      pending = subst (λ n. All (IsCandidate P d n) (pending_of s)) (sym same_number) at.pending;
      generators = λ i g. ⊎_elim inl (λ c. inr (generator_stays i g c)) (at.generators i g);
      word_values = λ j l. ⊎_elim inl (λ c. inr (subst (λ us. IsCombination P (values_of b.elements) (word_value P (values_of lower) (get_or us j []))) (sym words) (word_stays j (let e = same_number in omega arith) c)))
          (at.word_values j (let e = same_number in omega arith));
    }

    added_stands : IsStanding P (with_elements s b v n found)
    added_stands = record {
      basis = I.basis;
      small = let l = standing.small in subst (λ (q : QuotientState E). q.degree ≤ closing_max) (sym quotient) l;
      values = I.values;
      kept = let k = kept_to n to in I.kept n k.0 k.1;
      short = still_short;
      none_later = standing.none_later;
      at_degree = λ e. absurd (let f : true ≡ false = sym begun ∙ e in cc);
      in_degree = λ e. in_degree;
    }

    added_kept : AreKept P s (with_elements s b v n found)
    added_kept = record {
      presentation = refl;
      read = refl;
      elements = λ lo la p. (la ++ more, grown.whole ∙ (ap (λ ts. ts ++ more) p.whole ∙ append_assoc lo la more));
      relations = ([], sym (append-nil s.relations));
    }

    added_treated : ForStandardElements E MinimalWordsStay → ((T : List (Polynomial E)) → ValuesStay P (elements_of s) T) → (j : ℕ) (r : Found F E) → j < length s.found → r ≡ get_or s.found j r →
        IsCombination P (values_of b.elements) (word_value P (elements_of s) r.word) → IsTreated P (with_elements s b v n found) (Word j)
    added_treated minimal stays j r l h c =
        let w = word_at j in
        let is : IsWord (letters P (elements_of s)) w = ((word_minimal minimal j l).0).word in
        let same : word_value P (values_of b.elements) w ≡ word_value P (elements_of s) w = ap (λ S. word_value P S w) values_more ∙ stays (values_of more) w is in
        subst (λ us. IsCombination P (values_of b.elements) (word_value P (values_of b.elements) (get_or us j []))) (sym words)
        (subst (IsCombination P (values_of b.elements)) (sym same) (subst (λ x. IsCombination P (values_of b.elements) (word_value P (elements_of s) x)) (sym (word_is j r l h)) c))

  -- the candidate at an index that is a combination is taken out of the queue
  module _ (stays : (S T : List (Polynomial E)) → ValuesStay P S T) (k : ℕ) (x : Candidate) (here : slice_get (pending_of s) k ≡ Some x) (treated : IsTreated P s x)
      (queue : List (List Candidate)) (rest : list_of queue d ≡ remove (pending_of s) k) (others : SameElsewhere d s.queue queue) where
    abbrev popped : CompletionState F Q E
    popped = with_queue s queue

    inside : k < length (pending_of s)
    inside = slice_get_within (pending_of s) k x here

    waits_or_is : (y : Candidate) → Contains (pending_of s) y → Contains (pending_of popped) y ⊎ (x ≡ y)
    waits_or_is y h =
        ⊎_elim (λ i. inl (subst (λ ys. Contains ys y) (sym rest) i)) (λ e. inr (sym (get_or_from_slice_get (pending_of s) k x y here) ∙ e)) (stays_or_at (pending_of s) k y inside h)

    word_over : (j : ℕ) → j < length s.found → word_value P (elements_of s) (word_at j) ≡ word_value P (values_of lower) (word_at j)
    word_over j l =
        ap (λ S. word_value P S (word_at j)) values_parts ∙ stays (values_of lower) (values_of last) (word_at j) (((at.words).exactly (word_at j)).0 (word_found j l)).0.0.word

    popped_degree : IsInDegree P popped
    popped_degree = record {
      lower = lower;
      last = last;
      parts = at.parts;
      reduced = at.reduced;
      fresh = at.fresh;
      relations = at.relations;
      degree = at.degree;
      quotient = at.quotient;
      words = at.words;
      rights = at.rights;
      pending = subst (All (IsCandidate P d (length s.found))) (sym rest)
          (All-append (IsCandidate P d (length s.found)) (take k (pending_of s)) (drop (suc k) (pending_of s))
          (All-take (IsCandidate P d (length s.found)) k (pending_of s) at.pending) (All-drop (IsCandidate P d (length s.found)) (suc k) (pending_of s) at.pending));
      generators = λ i g. ⊎_elim (λ h. ⊎_elim inl (λ e. let t : IsTreated P s (Generator i) = subst (IsTreated P s) e treated in inr t) (waits_or_is (Generator i) h)) inr (at.generators i g);
      word_values = λ j l. ⊎_elim (λ h. ⊎_elim inl (λ e. let t : IsTreated P s (Word j) = subst (IsTreated P s) e treated in inr (subst (IsCombination P (elements_of s)) (word_over j l) t)) (waits_or_is (Word j) h)) inr
          (at.word_values j l);
    }

    popped_stands : IsStanding P (with_queue s queue)
    popped_stands = record {
      basis = standing.basis;
      small = standing.small;
      values = standing.values;
      kept = standing.kept;
      short = standing.short;
      none_later = λ e l. others e (λ q. absurd (omega arith)) ∙ standing.none_later e l;
      at_degree = λ e. absurd (let f : true ≡ false = sym begun ∙ e in cc);
      in_degree = λ e. popped_degree;
    }

  -- the candidate is found in a queue with the same items
  module _ (n : ℕ) (before queue : List (List Candidate)) (degree : n ≡ suc s.degree) (same : s.queue ≡ before) (stays : (S T : List (Polynomial E)) → ValuesStay P S T) (k : ℕ) (x : Candidate)
      (here : slice_get (list_of before n) k ≡ Some x) (treated : IsTreated P s x) (rest : list_of queue n ≡ remove (list_of s.queue n) k) (others : SameElsewhere n s.queue queue) where
    is_here : slice_get (pending_of s) k ≡ Some x
    is_here = subst (λ i. slice_get (list_of s.queue i) k ≡ Some x) degree (subst (λ q. slice_get (list_of q n) k ≡ Some x) (sym same) here)

    is_rest : list_of queue d ≡ remove (pending_of s) k
    is_rest = subst (λ i. list_of queue i ≡ remove (list_of s.queue i) k) degree rest

    is_other : SameElsewhere d s.queue queue
    is_other = subst (λ i. SameElsewhere i s.queue queue) degree others

    pub taken_stands : IsStanding P (with_queue s queue)
    taken_stands = popped_stands stays k x is_here treated queue is_rest is_other

-- A completion in a degree whose state is also called t: what taking a candidate asks for and gives.
module _ {F Q E : Type 0} (ops : F → FieldOps E) (order : Q → MonomialOrder) (s t : CompletionState F Q E) (same : s ≡ t) (completion : IsCompletion ops order t) (begun : t.begun ≡ true) where
  abbrev P : Presented E
  P = presented ops order s.presentation

  C : IsCompletion ops order s
  C = subst (IsCompletion ops order) (sym same) completion

  H : IsPresentation P
  H = C.presentation.presentation

  in_degree_too : s.begun ≡ true
  in_degree_too = ap (λ (x : CompletionState F Q E). x.begun) same ∙ begun

  pub opened_values : AreValues P (elements_of s) s.values
  opened_values = (C.standing).values

  -- what is kept does not depend on the name
  kept_named : (new : CompletionState F Q E) → AreKept P s new → AreKept (presented ops order t.presentation) t new
  kept_named new k = subst (λ (x : CompletionState F Q E). AreKept (presented ops order x.presentation) x new) same k

  -- a generator is put in
  module _ (b : BasisState F E) (v : Table E) (n : ℕ) (to : n ≡ max s.kept (s.degree + 1)) (I : IsInserted P s.basis s.values b v) where
    pub generator_completion : IsCompletion ops order (with_elements s b v n s.found)
    generator_completion = record {
      presentation = C.presentation;
      standing = added_stands P H s C.standing in_degree_too b v n to I s.found refl (at P H s C.standing in_degree_too).rights;
    }

    pub generator_kept : AreKept (presented ops order t.presentation) t (with_elements s b v n s.found)
    generator_kept = kept_named (with_elements s b v n s.found) (added_kept P H s C.standing in_degree_too b v n to I s.found refl (at P H s C.standing in_degree_too).rights)

  -- a word that was found is put in, and may have another right side
  module _ (minimal : ForStandardElements E MinimalWordsStay) (x : Candidate) (candidate : IsCandidate (presented ops order t.presentation) (suc t.degree) (length t.found) x)
      (j : ℕ) (is : x ≡ Word j) (old : Found F E) (here : old ≡ get_or s.found j old) where
    within : j < length s.found
    within = subst (λ (x : Candidate). IsCandidate P (suc s.degree) (length s.found) x) is
        (subst (λ (y : CompletionState F Q E). IsCandidate (presented ops order y.presentation) (suc y.degree) (length y.found) x) (sym same) candidate)

    is_word : get_or (map (λ (f : Found F E). f.word) s.found) j [] ≡ old.word
    is_word = word_is P H s C.standing in_degree_too j old within here

    pub found_minimal : IsMinimalWord P (elements_of s) old.word
    found_minimal = subst (IsMinimalWord P (elements_of s)) is_word (word_minimal P H s C.standing in_degree_too minimal j within)

    pub found_degree : word_degree P (elements_of s) old.word ≡ s.basis.words.degree
    found_degree = subst (λ w. word_degree P (elements_of s) w ≡ s.basis.words.degree) is_word (word_degree_is P H s C.standing in_degree_too minimal j within)

    module _ (new : Found F E) (same_word : new.word ≡ old.word) (b : BasisState F E) (v : Table E) (n : ℕ) (to : n ≡ max s.kept (s.degree + 1)) (I : IsInserted P s.basis s.values b v)
        (right : (lo la : List (Tracked F E)) → AreInParts P s.basis.words.degree s.basis.elements lo la → IsWord (letters P (values_of lo)) old.word →
        IfSome old.right (IsRightSide P (values_of lo) old.word) → IfSome new.right (IsRightSide P (values_of lo) new.word)) where
      abbrev after : CompletionState F Q E
      after = with_elements s b v n (slice_set s.found j new)

      abbrev low : List (Tracked F E)
      low = lower P H s C.standing in_degree_too

      words : map (λ (f : Found F E). f.word) (slice_set s.found j new) ≡ map (λ (f : Found F E). f.word) s.found
      words = words_stay P H s C.standing in_degree_too j old new within here same_word

      over : IsWord (letters P (values_of low)) old.word
      over = subst (IsWord (letters P (values_of low))) is_word (word_over_lower P H s C.standing in_degree_too minimal j within)

      rights : All (λ (f : Found F E). IfSome f.right (IsRightSide P (values_of low) f.word)) (slice_set s.found j new)
      rights = rights_stay P H s C.standing in_degree_too j old new within here same_word
          (right low (at P H s C.standing in_degree_too).last (parts_at P H s C.standing in_degree_too) over)

      pub word_completion : IsCompletion ops order (with_elements s b v n (slice_set s.found j new))
      word_completion = record {
        presentation = C.presentation;
        standing = added_stands P H s C.standing in_degree_too b v n to I (slice_set s.found j new) words rights;
      }

      pub word_kept : AreKept (presented ops order t.presentation) t (with_elements s b v n (slice_set s.found j new))
      word_kept = kept_named after (added_kept P H s C.standing in_degree_too b v n to I (slice_set s.found j new) words rights)

      pub word_treated : ((P : Presented E) (S T : List (Polynomial E)) → ValuesStay P S T) → {A B : Type 0} (r : Result A B) →
          OnOk r (IsCombination P (values_of b.elements) (word_value P (elements_of s) old.word)) → OnOk r (IsTreated (presented ops order t.presentation) after x)
      word_treated stays r h =
          subst (λ (y : CompletionState F Q E). OnOk r (IsTreated (presented ops order y.presentation) after x)) same
          (subst (λ (y : Candidate). OnOk r (IsTreated P after y)) (sym is)
          (on_ok_weaker r (added_treated P H s C.standing in_degree_too b v n to I (slice_set s.found j new) words rights minimal (stays P (elements_of s)) j old within here) h))
