-- A degree whose last elements were settled, and its end.
use Rattle.std.proofs.Common.{◌≡◌, ◌≢◌, ℕ, suc, ◌<◌, ◌≤◌, refl, sym, ◌∙◌, ap, subst, List, [], ◌++◌, inl, inr, length, get_or, ⊎_elim, arith}
use Rattle.std.specs.Prelude.{All, Contains, map, false, Option, Some, None, IfSome}
use Rattle.std.proofs.lemmas.List.{get_or_default, get_or-map, length-map}
use Rattle.std.proofs.lemmas.List.Elements.{All-contains}
use Rattle.degree_queue.specs.DegreeQueue.{list_of}
use Rattle.monomial_order.specs.Monomial.{Exponents}
use Rattle.monomial_order.specs.MonomialOrder.{IsMonomialOrder}
use Rattle.monomial_order.specs.laws.Lists.{contains_either, contains_left, contains_none}
use Rattle.word_laws.specs.Words.{word_order_of, AreLetters}
use Rattle.word_laws.specs.laws.Words.{word_laws}
use Rattle.polynomials.specs.Polynomial.{Polynomial, coefficient, degree_of, lead_monomial, IsHomogeneous, IsPoly}
use Rattle.polynomials.specs.Subalgebra.{Presented, IsPresentation, HasDegreesTo, IsDecidedTo, IsGenerated, IsReducedBasis}
use Rattle.monomial_order.specs.laws.Lists.{map_contains}
use Rattle.quotient_gb.specs.Quotient.{QuotientState}
use Rattle.subalgebra_laws.specs.Bases.{AreStandardAfter, HasCombinationsAt}
use Rattle.subalgebra_laws.specs.Words.{letters, word_value, IsCombination, IsMinimalWord}
use Rattle.subalgebra_laws.specs.laws.Members.{generator_poly}
use Rattle.witness.specs.declared.tracked.Tracked.{Tracked}
use Rattle.witness.specs.Tracking.{values_of}
use Rattle.word_values.specs.Values.{Table, word_degree}
use Rattle.subduction.specs.Basis.{BasisState, AreInParts, AreSettled, AreShortAt, IsBasisOf, IsLinearSum}
use Rattle.completion.specs.declared.candidates.Candidate.{Candidate}
use Rattle.completion.specs.declared.candidates.Candidate.TheVariants.{Generator, Word}
use Rattle.completion.specs.declared.candidates.Found.{Found}
use Rattle.completion.specs.Candidates.{IsGeneratorAt}
use Rattle.completion.specs.Closing.{relations_of, AreSides, CanRelate, ClosingLaws}
use Rattle.completion.specs.Completion.{pending_of, CompletionState, AreShortAbove, IsAtDegree, IsInDegree}
use Rattle.tete_lift.specs.Lifting.{IsRightSide}
use Rattle.completion.proofs.Combining.{exchanged}
use Rattle.completion.proofs.LastElements.{checked, homogeneous, last_degree, next_to, standard_after, values_are}
use Rattle.completion.proofs.LongerWords.{right_stays, same_degree}
use Rattle.completion.proofs.NextRelations.{next_relations}
use Rattle.completion.proofs.Parts.{same_parts}
use Rattle.completion.proofs.Sides.{sides_rights, sides_words}
use Rattle.completion.proofs.WordDegrees.{word_value_graded, word_value_poly}

module _ {F O E : Type 0} (P : Presented E) (H : IsPresentation P) (s : CompletionState F O E) (D : IsInDegree P s) where
  -- other values are kept
  pub with_values : (b : BasisState F E) (values : Table E) (kept : ℕ) → b ≡ s.basis → IsInDegree P (record s { basis = b; values = values; kept = kept })
  with_values b values kept e = subst (λ (x : BasisState F E). IsInDegree P (record s { basis = x; values = values; kept = kept })) (sym e) (record {
    lower = D.lower;
    last = D.last;
    parts = D.parts;
    reduced = D.reduced;
    fresh = D.fresh;
    relations = D.relations;
    degree = D.degree;
    quotient = D.quotient;
    words = D.words;
    rights = D.rights;
    pending = D.pending;
    generators = D.generators;
    word_values = D.word_values;
  })

  module _ (B : IsBasisOf P s.basis) (b : BasisState F E) (B' : IsBasisOf P b) (X : AreSettled P (suc s.degree) s.basis.elements b.elements) where
    abbrev d : ℕ
    d = suc s.degree

    abbrev S : List (Polynomial E)
    S = values_of D.lower

    abbrev U : List (Polynomial E)
    U = values_of D.last

    abbrev T : List (Polynomial E)
    T = values_of X.after

    same : (D.lower ≡ X.lower) × (D.last ≡ X.before)
    same = same_parts P d s.basis.elements D.lower D.last X.lower X.before D.parts X.old_parts

    new_parts : AreInParts P d b.elements D.lower X.after
    new_parts = subst (λ l. AreInParts P d b.elements l X.after) (sym same.0) X.new_parts

    new_fresh : (t : Tracked F E) → Contains X.after t → (m : Exponents) → coefficient P.field t.value m ≢ P.field.zero → ¬ IsGenerated (map lead_monomial S) m
    new_fresh t k m n = let o = X.monomials t m k n in D.fresh o.0 (subst (λ l. Contains l o.0) (sym same.1) o.1) m o.2

    before_is : AreStandardAfter P d S U
    before_is = standard_after P H s.basis B d D.lower D.last D.parts D.fresh

    after_is : AreStandardAfter P d S T
    after_is = standard_after P H b B' d D.lower X.after new_parts new_fresh

    elements_are : values_of b.elements ≡ S ++ T
    elements_are = values_are P H b B' d D.lower X.after new_parts

    old_elements : values_of s.basis.elements ≡ S ++ U
    old_elements = values_are P H s.basis B d D.lower D.last D.parts

    linear : (u : Polynomial E) → Contains U u → IsLinearSum P T u
    linear u k =
        let r = map_contains (λ (t : Tracked F E). t.value) D.last u k in
        subst (IsLinearSum P T) r.2 (All-contains (λ (t : Tracked F E). IsLinearSum P T t.value) X.before r.0 X.sums (subst (λ l. Contains l r.0) same.1 r.1))

    word_is : (j : ℕ) (f : Found F E) → j < length s.found → IsMinimalWord P S (let g : Found F E = get_or s.found j f in g.word) × (word_degree P S (let g : Found F E = get_or s.found j f in g.word) ≡ d)
    word_is j f l = (D.words.exactly (let g : Found F E = get_or s.found j f in g.word)).0
        (Rattle.monomial_order.specs.laws.Lists.contains_map (λ (g : Found F E). g.word) s.found (get_or s.found j f) (Rattle.monomial_order.specs.laws.Lists.contains_at s.found j f l))

    module _ (laws : ClosingLaws E) where
      exchange : (a : Polynomial E) → IsPoly P.field P.order.places a → HasDegreesTo P d a → IsCombination P (values_of s.basis.elements) a → IsCombination P (values_of b.elements) a
      exchange a p h c =
          subst (λ xs. IsCombination P xs a) (sym elements_are)
          (exchanged P H S U T d before_is after_is (λ t k. let e = last_degree P H b B' d D.lower X.after new_parts t k in omega arith) linear
          laws.sums laws.multiples laws.congruent laws.elements laws.ends a p h (subst (λ xs. IsCombination P xs a) old_elements c))

      exchange_generator : (i : ℕ) → IsGeneratorAt P d i → IsCombination P (values_of s.basis.elements) (get_or P.generators i []) → IsCombination P (values_of b.elements) (get_or P.generators i [])
      exchange_generator i g c =
          let f = get_or P.generators i [] in
          exchange f (generator_poly P H f (Rattle.monomial_order.specs.laws.Lists.contains_at P.generators i [] g.0)) (λ m n. let e = (g.1).each m n in omega arith) c

      exchange_word : (w : Exponents) → word_degree P S w ≡ d → IsCombination P (values_of s.basis.elements) (word_value P S w) → IsCombination P (values_of b.elements) (word_value P S w)
      exchange_word w e c =
          let h : Rattle.word_values.specs.Values.AreHomogeneousElements P S = λ t k. homogeneous P H s.basis B d D.lower D.last D.parts t (contains_left S U t k) in
          exchange (word_value P S w) (word_value_poly P H S h w) (λ m n. let g = word_value_graded P H S h w m n in omega arith) c

      pub settled_in_degree : (values : Table E) (kept : ℕ) → b.words.degree ≡ s.basis.words.degree → b.quotient ≡ s.basis.quotient → IsInDegree P (record s { basis = b; values = values; kept = kept })
      settled_in_degree values kept same_degree same_quotient = record {
        lower = D.lower;
        last = X.after;
        parts = new_parts;
        reduced = D.reduced;
        fresh = new_fresh;
        relations = D.relations;
        degree = same_degree ∙ D.degree;
        quotient = subst (λ (q : QuotientState E). q.degree ≤ d) (sym same_quotient) D.quotient;
        words = D.words;
        rights = D.rights;
        pending = D.pending;
        generators = λ i g. ⊎_elim (λ k. inl k) (λ c. inr (exchange_generator i g c)) (D.generators i g);
        word_values = λ j l. ⊎_elim (λ k. inl k) (λ c. inr (exchange_word (get_or (map (λ (f : Found F E). f.word) s.found) j [])
            (let z : Found F E = record { word = []; right = None } in
            subst (λ w. word_degree P S w ≡ d) (sym (get_or-map (λ (f : Found F E). f.word) s.found j z [] l)) (word_is j z l).1) c)) (D.word_values j l);
      }

      module _ (none : pending_of s ≡ []) where
        no_candidate : (x : Candidate) → Contains (pending_of s) x → ⊥
        no_candidate x k = contains_none x (subst (λ l. Contains l x) none k)

        word_combination : (j : ℕ) (f : Found F E) → j < length s.found → IsCombination P (values_of b.elements) (word_value P S (let g : Found F E = get_or s.found j f in g.word))
        word_combination j f l =
            exchange_word (let g : Found F E = get_or s.found j f in g.word) (word_is j f l).1
            (subst (λ w. IsCombination P (values_of s.basis.elements) (word_value P S w)) (get_or-map (λ (g : Found F E). g.word) s.found j f [] l)
            (⊎_elim (λ k. absurd (no_candidate (Word j) k)) (λ c. c) (D.word_values j l)))

        combinations_at : HasCombinationsAt P d S T
        combinations_at = record {
          generators = λ f k h. let l = k.1 in
              let e : get_or P.generators k.0 [] ≡ f = get_or_default P.generators k.0 [] f l ∙ k.2 in
              let g : IsGeneratorAt P d k.0 = (l, subst (IsHomogeneous P.field P.order d) (sym e) h) in
              subst (λ xs. IsCombination P xs f) elements_are
              (subst (IsCombination P (values_of b.elements)) e
              (exchange_generator k.0 g (⊎_elim (λ q. absurd (no_candidate (Generator k.0) q)) (λ c. c) (D.generators k.0 g))));
          words = λ u m e. word_at u ((D.words.exactly u).1 (m, e));
        }
          where
            word_at : (u : Exponents) → Contains (map (λ (f : Found F E). f.word) s.found) u → IsCombination P (S ++ T) (word_value P S u)
            word_at u k =
                let z : Found F E = record { word = u; right = None } in
                let l = k.1 in
                let n = length-map s.found (λ (f : Found F E). f.word) in
                let inside : k.0 < length s.found = omega arith in
                subst (λ xs. IsCombination P xs (word_value P S u)) elements_are
                (subst (λ w. IsCombination P (values_of b.elements) (word_value P S w)) (sym (get_or-map (λ (f : Found F E). f.word) s.found k.0 z u inside) ∙ k.2) (word_combination k.0 z inside))

        pub can_relate : b.words.degree ≡ s.basis.words.degree → All (CanRelate P (values_of b.elements) b.words.degree) s.found
        can_relate e j f l =
            let w = word_is j f l in
            let g : Found F E = get_or s.found j f in
            let low : word_degree P (S ++ T) g.word ≡ d = same_degree P S T g.word w.0.1.0 ∙ w.1 in
            let m = (laws.minimal P S T d H after_is g.word (omega arith)).1 w.0 in
            subst (λ xs. CanRelate P xs b.words.degree g) (sym elements_are) (record {
              word = m.1;
              degree = low ∙ sym (e ∙ D.degree);
              combination = subst (IsCombination P (S ++ T)) (sym (laws.values P S T g.word w.0.1.0)) (subst (λ xs. IsCombination P xs (word_value P S g.word)) elements_are (word_combination j f l));
              right = right g.right (D.rights j f l);
            })
          where
            right : (r : Option (Polynomial E)) → IfSome r (IsRightSide P S (let g : Found F E = get_or s.found j f in g.word)) → IfSome r (IsRightSide P (S ++ T) (let g : Found F E = get_or s.found j f in g.word))
            right None h = tt
            right (Some x) h =
                let w = word_is j f l in
                let i = w.1 in
                right_stays P S T H d after_is.after (laws.values P S T) laws.stay (let g : Found F E = get_or s.found j f in g.word) x w.0.1.0 (omega arith) h

        -- the end of the degree
        module _ (decided : IsDecidedTo P d) where
          reduced_basis : IsReducedBasis P d (S ++ T)
          reduced_basis =
              laws.next P S T d H (next_to P H b B' d D.lower X.after new_parts new_fresh X.increasing) s.degree refl decided D.reduced
              (checked P H b B' d D.lower X.after new_parts new_fresh laws.split X.reduced) combinations_at

          order_laws : IsMonomialOrder (word_order_of (letters P (S ++ T)))
          order_laws = word_laws (letters P (S ++ T)) (subst AreLetters (B'.letters ∙ ap (letters P) elements_are) B'.words.letters)

          pub closed_at_degree : (values : Table E) (kept : ℕ) (more : List (Found F E)) (sides : List (Polynomial E)) → b.words.degree ≡ s.basis.words.degree → b.quotient ≡ s.basis.quotient →
              ((e : ℕ) → d < e → list_of s.queue e ≡ []) → AreSides P (values_of b.elements) s.found sides →
              IsAtDegree P (record s { basis = b; values = values; kept = kept; relations = s.relations ++ relations_of s.found sides; degree = d; begun = false; found = more })
          closed_at_degree values kept more sides same_words same_quotient later h = record {
            reduced = subst (IsReducedBasis P d) (sym elements_are) reduced_basis;
            relations = subst (λ xs. Rattle.completion.specs.Relations.AreRelations P xs d (s.relations ++ relations_of s.found sides)) (sym elements_are)
                (next_relations P H S T s.degree after_is order_laws (laws.values P S T) laws.stay laws.minimal s.relations (relations_of s.found sides) (map (λ (f : Found F E). f.word) s.found) D.relations D.words
                (sides_words P (S ++ T) s.found sides h') (sides_rights P (S ++ T) s.found sides h'));
            words = let e = same_words ∙ D.degree in (omega arith, omega arith);
            quotient = let q = D.quotient in let e : b.quotient.degree ≡ s.basis.quotient.degree = ap (λ (x : QuotientState E). x.degree) same_quotient in omega arith;
            none_pending = later (suc d) (omega arith);
          }
            where
              h' : AreSides P (S ++ T) s.found sides
              h' = subst (λ xs. AreSides P xs s.found sides) elements_are h

    -- what is kept
    pub kept_elements : (lower last : List (Tracked F E)) → AreInParts P d s.basis.elements lower last → (more : List (Tracked F E)) × (b.elements ≡ lower ++ more)
    kept_elements lower last p =
        let e = same_parts P d s.basis.elements D.lower D.last lower last D.parts p in
        (X.after, new_parts.whole ∙ ap (λ l. l ++ X.after) e.0)

    pub short_above : AreShortAbove P s.read s.basis.elements → (AreShortAt P d s.basis.elements → AreShortAt P d b.elements) → AreShortAbove P s.read b.elements
    short_above h k t i l = ⊎_elim in_lower in_after (contains_either D.lower X.after t (subst (λ xs. Contains xs t) new_parts.whole i))
      where
        in_lower : Contains D.lower t → Rattle.witness.specs.Tracking.IsShort P.field (length P.generators) t.by
        in_lower j = h t (subst (λ xs. Contains xs t) (sym D.parts.whole) (contains_left D.lower D.last t j)) l

        in_after : Contains X.after t → Rattle.witness.specs.Tracking.IsShort P.field (length P.generators) t.by
        in_after j =
            let e : degree_of P.order t.value ≡ d = All-contains (λ (u : Tracked F E). degree_of P.order u.value ≡ d) X.after t new_parts.last_equal j in
            k (λ u q g. h u q (let z : degree_of P.order t.value ≡ degree_of P.order u.value = e ∙ sym g in omega arith)) t i e
