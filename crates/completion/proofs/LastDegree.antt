-- Whether a basis has elements of its last degree, and the values that are kept when they are settled.
use Rattle.std.proofs.Common.{◌≡◌, ◌≢◌, ℕ, suc, ◌+◌, ◌<◌, ◌≤◌, refl, sym, ◌∙◌, ap, subst, List, [], ◌∷◌, ◌++◌, ◌⊎◌, length, length-append, get_or, ⊎_elim, arith}
use Rattle.std.specs.Prelude.{Contains, map, Some, None}
use Rattle.std.proofs.lemmas.List.{get_or-append-add, get_or-map, length-map, map-append}
use Rattle.std.proofs.lemmas.List.Elements.{All-contains}
use Rattle.monomial_order.specs.Monomial.{Exponents, IsMonomial}
use Rattle.monomial_order.specs.laws.Lists.{contains_at, contains_either}
use Rattle.word_laws.specs.Words.{Letters}
use Rattle.polynomials.specs.Polynomial.{Polynomial, degree_of, lead_monomial}
use Rattle.polynomials.specs.Subalgebra.{Presented, IsPresentation}
use Rattle.monomial_order.specs.laws.Lists.{map_contains}
use Rattle.witness.specs.declared.tracked.Tracked.{Tracked}
use Rattle.witness.specs.Tracking.{values_of}
use Rattle.word_values.specs.Values.{Table, AreHomogeneousElements, AreValues, AreWordsTo}
use Rattle.subduction.specs.Basis.{BasisState, AreInParts, AreSettled, IsBasisOf}
use Rattle.subduction.specs.laws.Elements.{leads_monomials}
use Rattle.completion.proofs.LastElements.{homogeneous, last_degree, values_are}

pub found_at : (xs ys : List Exponents) (i : ℕ) (m : Exponents) → xs ≡ ys → i < length xs → m ≡ get_or xs i m → Contains ys m
found_at xs ys i m e l h = subst (λ zs. Contains zs m) e (subst (Contains xs) (sym h) (contains_at xs i m l))

module _ {F E : Type 0} (P : Presented E) (H : IsPresentation P) (b : BasisState F E) (B : IsBasisOf P b) where
  open P use {order as O}

  leads_are : b.words.letters.leads ≡ map lead_monomial (values_of b.elements)
  leads_are = ap (λ (l : Letters). l.leads) B.letters

  pub lead_is_monomial : (m : Exponents) → Contains b.words.letters.leads m → IsMonomial O.places m
  lead_is_monomial m k =
      let r = map_contains lead_monomial (values_of b.elements) m (subst (λ ms. Contains ms m) leads_are k) in
      subst (IsMonomial O.places) r.2 (leads_monomials P H b B r.0 r.1)

  pub lead_is_small : (m : Exponents) → Contains b.words.letters.leads m → O.degree m ≤ 65535
  lead_is_small m k =
      let r = map_contains lead_monomial (values_of b.elements) m (subst (λ ms. Contains ms m) leads_are k) in
      let q = map_contains (λ (t : Tracked F E). t.value) b.elements r.0 r.1 in
      subst (λ x. O.degree x ≤ 65535) (ap lead_monomial q.2 ∙ r.2) (small q.0 q.1)
    where
      small : (t : Tracked F E) → Contains b.elements t → degree_of O t.value ≤ 65535
      small t i =
          let p = B.parts in
          let x = p.2 in
          let s = B.words.small in
          ⊎_elim (λ j. let l = All-contains (λ (u : Tracked F E). degree_of O u.value < b.words.degree) p.0 t x.lower_less j in omega arith)
          (λ j. let l = All-contains (λ (u : Tracked F E). degree_of O u.value ≡ b.words.degree) p.1 t x.last_equal j in omega arith)
          (contains_either p.0 p.1 t (subst (λ xs. Contains xs t) x.whole i))

  pub none_last : (n : ℕ) (m : Exponents) → length b.words.letters.leads ≡ suc n → get_or b.words.letters.leads n [] ≡ m → O.degree m ≢ b.words.degree →
      (lower last : List (Tracked F E)) → AreInParts P b.words.degree b.elements lower last → last ≡ []
  none_last n m l e ne lower [] p = refl
  none_last n m l e ne lower (t ∷ ts) p =
      let a = ap length leads_are in
      let x = length-map (values_of b.elements) lead_monomial in
      let y = length-map b.elements (λ (u : Tracked F E). u.value) in
      let z = ap length p.whole in
      let w = length-append lower (t ∷ ts) in
      let i : n ≡ length lower + length ts = omega arith in
      let u : Tracked F E = get_or (t ∷ ts) (length ts) t in
      let here : get_or b.elements n t ≡ u = ap (λ xs. get_or xs n t) p.whole ∙ (ap (λ k. get_or (lower ++ t ∷ ts) k t) i ∙ get_or-append-add lower (t ∷ ts) (length ts) t) in
      let is : m ≡ lead_monomial u.value =
      sym e ∙ (ap (λ ms. get_or ms n []) leads_are ∙
      (get_or-map lead_monomial (values_of b.elements) n [] [] (omega arith) ∙
      (ap lead_monomial (get_or-map (λ (v : Tracked F E). v.value) b.elements n t [] (omega arith)) ∙ ap (λ (v : Tracked F E). lead_monomial v.value) here))) in
      absurd (ne (ap O.degree is ∙ All-contains (λ (v : Tracked F E). degree_of O v.value ≡ b.words.degree) (t ∷ ts) u p.last_equal (contains_at (t ∷ ts) (length ts) t (omega arith))))

  -- values of words to the last degree are values over the elements that are settled
  module _ (kept : Table E) (d : ℕ) (elements : List (Tracked F E)) (X : AreSettled P d b.elements elements) where
    abbrev S : List (Polynomial E)
    S = values_of X.lower

    abbrev U : List (Polynomial E)
    U = values_of X.before

    abbrev T : List (Polynomial E)
    T = values_of X.after

    old_are : values_of b.elements ≡ S ++ U
    old_are = values_are P H b B d X.lower X.before X.old_parts

    new_are : values_of elements ≡ S ++ T
    new_are = ap values_of (X.new_parts).whole ∙ map-append (λ (t : Tracked F E). t.value) X.lower X.after

    kept_over : (Q : List (Polynomial E) → Type 0) → (((u : Polynomial E) → Contains U u → O.degree (lead_monomial u) ≡ d) → AreHomogeneousElements P (S ++ U) → AreValues P (S ++ U) kept → AreWordsTo P (S ++ U) d kept → Q (S ++ T)) →
        AreValues P (values_of b.elements) kept → AreWordsTo P (values_of b.elements) d kept → Q (values_of elements)
    kept_over Q law v w =
        subst Q (sym new_are)
        (law (last_degree P H b B d X.lower X.before X.old_parts) (homogeneous P H b B d X.lower X.before X.old_parts)
        (subst (λ xs. AreValues P xs kept) old_are v) (subst (λ xs. AreWordsTo P xs d kept) old_are w))

-- no value is kept above a degree, or none at all
module _ {E : Type 0} (P : Presented E) (S : List (Polynomial E)) where
  nothing_kept : AreValues P S []
  nothing_kept w v e = absurd cc

  words_above : (kept : Table E) (c d : ℕ) → AreWordsTo P S c kept → c ≤ d → AreWordsTo P S d kept
  words_above kept c d h l w v e = let x = h w v e in omega arith

  -- all values, or none of them
  module _ (kept left : Table E) (c d : ℕ) (h : ((left ≡ kept) × (c ≤ d)) ⊎ (left ≡ [])) where
    pub left_values : AreValues P S kept → AreValues P S left
    left_values v = ⊎_elim (λ e. subst (AreValues P S) (sym e.0) v) (λ e. subst (AreValues P S) (sym e) nothing_kept) h

    left_words : AreWordsTo P S c kept → AreWordsTo P S d left
    left_words v =
        ⊎_elim (λ e. subst (AreWordsTo P S d) (sym e.0) (words_above kept c d v e.1)) (λ e. subst (AreWordsTo P S d) (sym e) (λ w x i. absurd (no_value x i))) h
      where
        no_value : (x : Polynomial E) → None ≡ Some x → ⊥
        no_value x i = absurd cc

-- elements of degree d at the end may be exchanged, where no word of a greater degree is kept
abbrev pub ExchangingValues : Type 0 → Type 0
ExchangingValues E = (P : Presented E) (S U T : List (Polynomial E)) (kept : Table E) (d : ℕ) → IsPresentation P → AreHomogeneousElements P (S ++ U) →
    ((u : Polynomial E) → Contains U u → P.order.degree (lead_monomial u) ≡ d) → AreValues P (S ++ U) kept → AreWordsTo P (S ++ U) d kept → AreValues P (S ++ T) kept

abbrev pub ExchangingWords : Type 0 → Type 0
ExchangingWords E = (P : Presented E) (S U T : List (Polynomial E)) (kept : Table E) (d : ℕ) → IsPresentation P → AreHomogeneousElements P (S ++ U) →
    ((u : Polynomial E) → Contains U u → P.order.degree (lead_monomial u) ≡ d) → AreValues P (S ++ U) kept → AreWordsTo P (S ++ U) d kept → AreWordsTo P (S ++ T) d kept

-- so the values that are left are values over the settled elements
module _ {F E : Type 0} (P : Presented E) (H : IsPresentation P) (b : BasisState F E) (B : IsBasisOf P b) (kept left : Table E) (c d : ℕ) (is : d ≡ b.words.degree)
    (h : ((left ≡ kept) × (c ≤ d)) ⊎ (left ≡ [])) (values : AreValues P (values_of b.elements) kept) (words : AreWordsTo P (values_of b.elements) c kept)
    (elements : List (Tracked F E)) (X : AreSettled P b.words.degree b.elements elements) where
  over_settled : (Q : List (Polynomial E) → Type 0) → (((u : Polynomial E) → Contains (values_of X.before) u → P.order.degree (lead_monomial u) ≡ b.words.degree) → AreHomogeneousElements P (values_of X.lower ++ values_of X.before) →
      AreValues P (values_of X.lower ++ values_of X.before) left → AreWordsTo P (values_of X.lower ++ values_of X.before) b.words.degree left → Q (values_of X.lower ++ values_of X.after)) → Q (values_of elements)
  over_settled Q law = kept_over P H b B left b.words.degree elements X Q law (left_values P (values_of b.elements) kept left c d h values)
      (subst (λ n. AreWordsTo P (values_of b.elements) n left) is (left_words P (values_of b.elements) kept left c d h words))

  pub settled_values : ExchangingValues E → AreValues P (values_of elements) left
  settled_values law = over_settled (λ S. AreValues P S left)
      (λ z g v w. law P (values_of X.lower) (values_of X.before) (values_of X.after) left b.words.degree H g z v w)

  pub settled_words : ExchangingWords E → AreWordsTo P (values_of elements) d left
  settled_words law = subst (λ n. AreWordsTo P (values_of elements) n left) (sym is) (over_settled (λ S. AreWordsTo P S b.words.degree left)
      (λ z g v w. law P (values_of X.lower) (values_of X.before) (values_of X.after) left b.words.degree H g z v w))
