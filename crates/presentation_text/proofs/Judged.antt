-- What is judged on a sum of terms is so for the polynomial that is the sum.
use Rattle.std.proofs.Common.{◌≡◌, ◌≢◌, ◌⊎◌, inl, inr, ℕ, ◌≤◌, Bool, true, false, not, cond, eqb, List, [], ◌∷◌, map, filter, Ok, Err, refl, sym, ap, subst, ◌∙◌, arith, eq-eqb}
use Rattle.std.specs.List.{list_all, list_any, AllByRecursion}
use Rattle.std.proofs.lemmas.Bool.{and_parts, or_parts, eqb-true, false_from_ne_true, true_from_ne_false, not-true, not_from_false, true≢false}
use Rattle.word_field.specs.Field.{FieldOps, IsField}
use Rattle.word_field.specs.laws.Field.{word_unique}
use Rattle.polynomials.specs.laws.Ring.{coefficient_value}
use Rattle.monomial_order.specs.declared.terms.Term.{Term}
use Rattle.monomial_order.specs.MonomialOrder.{MonomialOrder, IsMonomialOrder}
use Rattle.polynomials.specs.Polynomial.{Polynomial, coefficient, Same, AllAt, IsCanonical, IsDecreasing, IsDegree, IsHomogeneous, IsZeroOrHomogeneous}
use Rattle.polynomials.specs.laws.Decreasing.{coefficient_first}
use Rattle.polynomials.specs.laws.Degrees.{all_found, decreasing_all}
use Rattle.poly_core.specs.Presentation.{IsCanonicalGenerator}
use Rattle.monomial_order.specs.Limits.{degree_max}
use Rattle.polynomial_text.specs.Degrees.{IsLow}
use Rattle.presentation_text.specs.declared.text_kind.TextKind.{TextKind}
use Rattle.presentation_text.specs.declared.text_kind.TextKind.TheVariants.{NotHomogeneous}
use Rattle.presentation_text.specs.Judging.{degrees, is_one_degree, judged}

-- ---- lists of degrees

all_one : (d : ℕ) (ds : List ℕ) → AllByRecursion (λ e. e ≡ d) ds → is_one_degree ds ≡ true
all_one d [] all = refl
all_one d (e ∷ ds) all = rest ds all.1
  where
    rest : (fs : List ℕ) → AllByRecursion (λ f. f ≡ d) fs → list_all (eqb e) fs ≡ true
    rest [] h = refl
    rest (f ∷ fs) h = let same : eqb e f ≡ true = eq-eqb e f (all.0 ∙ sym h.0) in rw (same, rest fs h.1) refl

one_of : (ds : List ℕ) → is_one_degree ds ≡ true → (d : ℕ) × AllByRecursion (λ e. e ≡ d) ds
one_of [] e = (0, tt)
one_of (d ∷ ds) e = (d, (refl, rest ds e))
  where
    rest : (fs : List ℕ) → list_all (eqb d) fs ≡ true → AllByRecursion (λ f. f ≡ d) fs
    rest [] h = tt
    rest (f ∷ fs) h = let k = and_parts (eqb d f) (list_all (eqb d) fs) h in (sym (eqb-true d f k.0), rest fs k.1)

none_zero : (ds : List ℕ) → AllByRecursion (λ e. e ≢ 0) ds → list_any (λ d. eqb d 0) ds ≡ false
none_zero [] all = refl
none_zero (d ∷ ds) all = rw (false_from_ne_true (eqb d 0) (λ e. all.0 (eqb-true d 0 e)), none_zero ds all.1) refl

zero_none : (ds : List ℕ) → list_any (λ d. eqb d 0) ds ≡ false → AllByRecursion (λ e. e ≢ 0) ds
zero_none [] h = tt
zero_none (d ∷ ds) h =
    let k = or_parts (eqb d 0) (list_any (λ e. eqb e 0) ds) h in
    (λ z. true≢false (sym (eq-eqb d 0 z) ∙ k.0), zero_none ds k.1)

module _ {E : Type 0} (K : FieldOps E) (F : IsField K) (O : MonomialOrder) (L : IsMonomialOrder O) (sum : Polynomial E) where
  -- the coefficient of the sum at the monomial is not zero
  abbrev has_coefficient : Term E → Bool
  has_coefficient t = not (eqb (K.word (coefficient K sum t.at)) 0)

  coefficient_found : (t : Term E) → coefficient K sum t.at ≢ K.zero → has_coefficient t ≡ true
  coefficient_found t h =
      not_from_false _ (false_from_ne_true (eqb (K.word (coefficient K sum t.at)) 0)
      (λ e. h (word_unique K F (coefficient K sum t.at) K.zero (coefficient_value K F sum t.at) F.zero_value (eqb-true _ 0 e ∙ sym F.word_zero))))

  found_coefficient : (t : Term E) → has_coefficient t ≡ true → coefficient K sum t.at ≢ K.zero
  found_coefficient t h z = true≢false (sym (eq-eqb _ 0 (ap K.word z ∙ F.word_zero)) ∙ not-true _ h)

  -- what holds of each degree holds of the degree of each monomial with a coefficient
  every : (Q : ℕ → Type 0) → AllByRecursion Q (degrees K O sum) → (m : List ℕ) → coefficient K sum m ≢ K.zero → Q (O.degree m)
  every Q all m c = all_found K F O L (λ k. coefficient K sum k ≢ K.zero → Q (O.degree k)) sum (each sum all) m c c
    where
      each : (q : Polynomial E) → AllByRecursion Q (map (λ t. O.degree t.at) (filter has_coefficient q)) → AllAt (λ k. coefficient K sum k ≢ K.zero → Q (O.degree k)) q
      each [] h = tt
      each (t ∷ q) h = by (has_coefficient t) refl (each q) h
        where
          by : (b : Bool) → has_coefficient t ≡ b → (AllByRecursion Q (map (λ t. O.degree t.at) (filter has_coefficient q)) → AllAt (λ k. coefficient K sum k ≢ K.zero → Q (O.degree k)) q)
              → AllByRecursion Q (map (λ t. O.degree t.at) (cond b (t ∷ filter has_coefficient q) (filter has_coefficient q))) → (coefficient K sum t.at ≢ K.zero → Q (O.degree t.at)) × AllAt (λ k. coefficient K sum k ≢ K.zero → Q (O.degree k)) q
          by true is rest k = (λ c. k.0, rest k.1)
          by false is rest k = (λ c. let yes : true ≡ false = sym (coefficient_found t c) ∙ is in absurd cc, rest k)

  -- and the other way round
  of_each : (Q : ℕ → Type 0) → ((m : List ℕ) → coefficient K sum m ≢ K.zero → Q (O.degree m)) → AllByRecursion Q (degrees K O sum)
  of_each Q each = along sum
    where
      along : (q : Polynomial E) → AllByRecursion Q (map (λ t. O.degree t.at) (filter has_coefficient q))
      along [] = tt
      along (t ∷ q) = by (has_coefficient t) refl (along q)
        where
          by : (b : Bool) → has_coefficient t ≡ b → AllByRecursion Q (map (λ t. O.degree t.at) (filter has_coefficient q)) → AllByRecursion Q (map (λ t. O.degree t.at) (cond b (t ∷ filter has_coefficient q) (filter has_coefficient q)))
          by true is rest = (each t.at (found_coefficient t is), rest)
          by false is rest = rest

  module _ (p : Polynomial E) (s : Same K p sum) where
    in_poly : (m : List ℕ) → coefficient K sum m ≢ K.zero → coefficient K p m ≢ K.zero
    in_poly m c z = c (sym (s m) ∙ z)

    in_sum : (m : List ℕ) → coefficient K p m ≢ K.zero → coefficient K sum m ≢ K.zero
    in_sum m c z = c (s m ∙ z)

    one_degree : IsZeroOrHomogeneous K O p → is_one_degree (degrees K O sum) ≡ true
    unfolding coefficient
    one_degree (inl none) = all_one 0 (degrees K O sum) (of_each (λ e. e ≡ 0) (λ m c. absurd (in_poly m c (none m))))
    one_degree (inr (d, same)) = all_one d (degrees K O sum) (of_each (λ e. e ≡ d) (λ m c. same.each m (in_poly m c)))

    is_homogeneous : IsCanonical K O p → is_one_degree (degrees K O sum) ≡ true → IsZeroOrHomogeneous K O p
    is_homogeneous canonical e = let one = one_of (degrees K O sum) e in by p canonical refl one.0 (λ m c. every (λ k. k ≡ one.0) one.1 m (in_sum m c))
      where
        by : (q : Polynomial E) → IsCanonical K O q → q ≡ p → (d : ℕ) → ((m : List ℕ) → coefficient K p m ≢ K.zero → O.degree m ≡ d) → IsZeroOrHomogeneous K O p
        by [] k same d each = inl (λ m. ap (λ (r : Polynomial E). coefficient K r m) (sym same))
        by (t ∷ q) k same d each =
            let first : coefficient K (t ∷ q) t.at ≢ K.zero = λ z. k.decreasing.0.nonzero (sym (coefficient_first K F O L t q k.decreasing.0) ∙ z) in
            inr (d, record { some = (t.at, subst (λ (r : Polynomial E). coefficient K r t.at ≢ K.zero) same first); each = each })

    pub judged_mixed : (constant : TextKind) → IsCanonical K O p → (IsZeroOrHomogeneous K O p → ⊥) → judged K O constant sum ≡ Err NotHomogeneous
    unfolding judged
    judged_mixed constant canonical mixed =
        rw (false_from_ne_true (is_one_degree (degrees K O sum)) (λ e. mixed (is_homogeneous canonical e))) refl

    -- a generator passes
    pub judged_generator : (constant : TextKind) → IsCanonicalGenerator K O p → judged K O constant sum ≡ Ok sum
    unfolding judged coefficient
    judged_generator constant g = by g.homogeneous
      where
        passes : IsZeroOrHomogeneous K O p → ((m : List ℕ) → coefficient K sum m ≢ K.zero → O.degree m ≢ 0) → judged K O constant sum ≡ Ok sum
        passes same positive = rw (one_degree same, none_zero (degrees K O sum) (of_each (λ e. e ≢ 0) positive)) refl

        by : (p ≡ []) ⊎ ((d : ℕ) × (1 ≤ d) × (d ≤ degree_max) × IsHomogeneous K O d p) → judged K O constant sum ≡ Ok sum
        by (inl zero) = let none : Same K p [] = λ m. ap (λ (r : Polynomial E). coefficient K r m) zero in passes (inl none) (λ m c. absurd (in_poly m c (none m)))
        by (inr (d, low, high, same)) = passes (inr (d, same)) (λ m c z. let at = same.each m (in_poly m c) in omega (arith, at, low, z))

    -- each monomial of a homogeneous polynomial has its greatest degree
    has_degree : (d : ℕ) → IsZeroOrHomogeneous K O p → IsDegree K O d p → (m : List ℕ) → coefficient K p m ≢ K.zero → O.degree m ≡ d
    unfolding coefficient
    has_degree d (inl none) greatest m c = absurd (c (none m))
    has_degree d (inr (e, same)) greatest m c = same.each m c ∙ sym (same.each greatest.some.0 greatest.some.1) ∙ greatest.some.2

    pub judged_constant : (constant : TextKind) (d : ℕ) → IsZeroOrHomogeneous K O p → IsDegree K O d p → d ≡ 0 → judged K O constant sum ≡ Err constant
    unfolding judged
    judged_constant constant d same greatest zero =
        let there : list_any (λ e. eqb e 0) (degrees K O sum) ≡ true =
        true_from_ne_false _ (λ e. every (λ k. k ≢ 0) (zero_none (degrees K O sum) e) greatest.some.0 (in_sum greatest.some.0 greatest.some.1) (greatest.some.2 ∙ zero)) in
        rw (one_degree same, there) refl

    -- ---- what passes

    none_left : (q : Polynomial E) → IsDecreasing K O q → Same K q [] → q ≡ []
    unfolding coefficient
    none_left [] h none = refl
    none_left (t ∷ q) h none = absurd (h.0.nonzero (sym (coefficient_first K F O L t q h.0) ∙ none t.at))

    pub passed_generator : IsCanonical K O p → IsLow O sum → is_one_degree (degrees K O sum) ≡ true → list_any (λ d. eqb d 0) (degrees K O sum) ≡ false → IsCanonicalGenerator K O p
    passed_generator canonical low one positive = record { canonical = canonical; homogeneous = by (is_homogeneous canonical one) }
      where
        by : IsZeroOrHomogeneous K O p → (p ≡ []) ⊎ ((d : ℕ) × (1 ≤ d) × (d ≤ degree_max) × IsHomogeneous K O d p)
        by (inl none) = inl (none_left p canonical.decreasing none)
        by (inr (d, same)) =
            let at : O.degree same.some.0 ≡ d = same.each same.some.0 same.some.1 in
            let there = in_sum same.some.0 same.some.1 in
            let nonzero : O.degree same.some.0 ≢ 0 = every (λ k. k ≢ 0) (zero_none (degrees K O sum) positive) same.some.0 there in
            let top : O.degree same.some.0 ≤ degree_max = all_found K F O L (λ m. O.degree m ≤ degree_max) sum low same.some.0 there in
            inr (d, omega (arith, nonzero, at), omega (arith, top, at), same)

-- ---- generators

module _ {E : Type 0} (K : FieldOps E) (F : IsField K) (O : MonomialOrder) (L : IsMonomialOrder O) (p : Polynomial E) (canonical : IsCanonical K O p) where
  pub zero_generator : p ≡ [] → IsCanonicalGenerator K O p
  zero_generator zero = record { canonical = canonical; homogeneous = inl zero }

  pub positive_generator : (d : ℕ) → IsLow O p → IsZeroOrHomogeneous K O p → IsDegree K O d p → d ≢ 0 → IsCanonicalGenerator K O p
  positive_generator d low same greatest positive =
      let each = of_each K F O L p (λ e. e ≢ 0) (λ m c z. positive (sym (has_degree K F O L p p (λ m. refl) d same greatest m c) ∙ z)) in
      passed_generator K F O L p p (λ m. refl) canonical low (one_degree K F O L p p (λ m. refl) same) (none_zero (degrees K O p) each)

  pub generator_low : IsCanonicalGenerator K O p → IsLow O p
  unfolding coefficient
  generator_low g = decreasing_all K F O L (λ m. O.degree m ≤ degree_max) p canonical.decreasing (λ m c. by g.homogeneous m c)
    where
      by : (p ≡ []) ⊎ ((d : ℕ) × (1 ≤ d) × (d ≤ degree_max) × IsHomogeneous K O d p) → (m : List ℕ) → coefficient K p m ≢ K.zero → O.degree m ≤ degree_max
      by (inl zero) m c = absurd (c (ap (λ (r : Polynomial E). coefficient K r m) zero))
      by (inr (d, low, high, same)) m c = let at = same.each m c in omega (arith, at, high)
