-- The subalgebra that x + y generates modulo x^2 - y^2, to the degree 3.
use Rattle.std.proofs.Common.{◌≡◌, ◌≢◌, ℕ, zero, suc, ◌+◌, ◌≤◌, refl, sym, ap, subst, List, [], ◌∷◌, ◌++◌, ◌⊎◌, inl, inr, ⊎_elim, arith, true}
use Rattle.std.specs.Prelude.{map, nat_le}
use Rattle.std.proofs.lemmas.Bool.Decides.{nat_tests}
use Rattle.word_field.specs.Residues.{residues}
use Rattle.monomial_order.specs.Monomial.{exponent, product, IsMonomial, Divides}
use Rattle.monomial_order.specs.laws.Monomial.{exponent-product}
use Rattle.monomial_order.specs.laws.Lists.{contains_here}
use Rattle.monomial_order.specs.laws.Comparing.{le_or_not}
use Rattle.word_laws.specs.Words.{word_order_of, IsSWord}
use Rattle.polynomials.specs.Polynomial.{Polynomial, coefficient, Same, term_of, times, minus, constant, IsDecreasing, IsPoly, lead_monomial}
use Rattle.polynomials.specs.Ideal.{Congruent}
use Rattle.polynomials.specs.Value.{value}
use Rattle.polynomials.specs.Subalgebra.{IsPresentation, InSubalgebra, LeadsIdeal, IsStandard, IsGenerated, IsDecidedTo, AreZerosTo}
use Rattle.polynomials.specs.laws.Decreasing.{IsLead_first}
use Rattle.subalgebra_laws.specs.Words.{letters, word_value, IsReducibleWord, IsMinimalWord, IsCombination}
use Rattle.subalgebra_laws.specs.Bases.{IsMonicElement, AreMonicElements, HasCombinationsTo, IsCheckedElement, IsCheckedBasis}
use Rattle.subalgebra_laws.specs.Samples.{sum_xy, sum_times_y, difference_of_squares, quotient, quotient_basis}
use Rattle.subalgebra_laws.proofs.Plane.{field, plane, plane_laws, term_in, sum_decreasing, sum_times_decreasing}
use Rattle.subalgebra_laws.proofs.Combinations.{combination_same, combination_congruent, combination_multiple, combination_word}
use Rattle.subalgebra_laws.specs.laws.Members.{generator_sub}
use Rattle.subalgebra_laws.proofs.Principal.{generator_leads, leads_are_multiples}
use Rattle.subalgebra_laws.proofs.SampleTools.{EachOf, each_of, each_part, reducible_listed, same_checked, first_homogeneous, first_monic, first_checked, not_generated}
use Rattle.polynomials.specs.laws.NormalForm.{lead_multiple}

difference_decreasing : IsDecreasing (residues 101) plane difference_of_squares
difference_decreasing = (
  record { term = term_in 2 (2 ∷ []) 1 (record { trimmed = λ e. cc; within = omega arith }) refl; nonzero = λ e. cc; above = (refl, tt) },
  (record { term = term_in 2 (0 ∷ (2 ∷ [])) 100 (record { trimmed = λ e. cc; within = omega arith }) refl; nonzero = λ e. cc; above = tt }, tt),
)

difference_poly : IsPoly (residues 101) 2 difference_of_squares
difference_poly = (difference_decreasing.0.term, (difference_decreasing.1.0.term, tt))

pub presentation : IsPresentation quotient
presentation = record {
  field = field;
  order = plane_laws;
  ideal = (
    record {
      poly = difference_poly;
      homogeneous = inr (2, omega arith, first_homogeneous (residues 101) field plane plane_laws 2 (term_of (2 ∷ []) 1) (term_of (0 ∷ (2 ∷ [])) 100 ∷ []) difference_decreasing (refl, (refl, tt)));
    },
    tt,
  );
  generators = (
    record {
      poly = (sum_decreasing.0.term, (sum_decreasing.1.0.term, tt));
      homogeneous = inr (1, omega arith, first_homogeneous (residues 101) field plane plane_laws 1 (term_of (1 ∷ []) 1) (term_of (0 ∷ (1 ∷ [])) 1 ∷ []) sum_decreasing (refl, (refl, tt)));
    },
    tt,
  );
}

-- the leads of the ideal are the multiples of x^2
x_squared_leads : LeadsIdeal quotient (2 ∷ [])
x_squared_leads = generator_leads quotient presentation difference_of_squares (2 ∷ []) refl difference_poly
    (IsLead_first (residues 101) field plane plane_laws (term_of (2 ∷ []) 1) (term_of (0 ∷ (2 ∷ [])) 100 ∷ []) difference_decreasing)

lead_has_squares : (m : List ℕ) → LeadsIdeal quotient m → 2 ≤ exponent m 0
lead_has_squares m l =
    let k = leads_are_multiples quotient presentation difference_of_squares (2 ∷ []) refl difference_poly
    (IsLead_first (residues 101) field plane plane_laws (term_of (2 ∷ []) 1) (term_of (0 ∷ (2 ∷ [])) 100 ∷ []) difference_decreasing) m l in
    let e : exponent (product k.0 (2 ∷ [])) 0 ≡ exponent m 0 = ap (λ y. exponent y 0) k.1 in
    let p : exponent (product k.0 (2 ∷ [])) 0 ≡ exponent k.0 0 + 2 = exponent-product k.0 (2 ∷ []) 0 in
    omega arith

divides_squares : (m : List ℕ) → 2 ≤ exponent m 0 → Divides (2 ∷ []) m
divides_squares m h zero = h
divides_squares m h (suc i) = omega arith

pub decided : (c : ℕ) → IsDecidedTo quotient c
decided c m hm d =
    ⊎_elim (λ h. inl (lead_multiple quotient presentation (2 ∷ []) m x_squared_leads hm (divides_squares m h))) (λ n. inr (λ l. n (lead_has_squares m l))) (le_or_not 2 (exponent m 0))

standard : (m : List ℕ) → IsMonomial 2 m → exponent m 0 ≤ 1 → IsStandard quotient m
standard m h le = record { monomial = h; no_lead = λ l. let s = lead_has_squares m l in absurd (omega arith) }

-- x^2 divides the leads of the ideal
pub zeros : AreZerosTo quotient 3 ((2 ∷ []) ∷ [])
zeros = record {
  lead = each_of (LeadsIdeal quotient) ((2 ∷ []) ∷ []) (x_squared_leads, tt);
  divide = λ m l d. (2 ∷ [], contains_here (2 ∷ []) [], divides_squares m (lead_has_squares m l));
}

first_decreasing : IsDecreasing (residues 101) plane (sum_times_y 1)
first_decreasing = sum_times_decreasing 1 (omega arith) refl

second_decreasing : IsDecreasing (residues 101) plane (sum_times_y 2)
second_decreasing = sum_times_decreasing 2 (omega arith) refl

pub monic : AreMonicElements quotient quotient_basis
monic = each_of (IsMonicElement quotient) quotient_basis (
  first_monic quotient presentation (term_of (1 ∷ []) 1) (term_of (0 ∷ (1 ∷ [])) 1 ∷ []) sum_decreasing refl (omega arith),
  (
    first_monic quotient presentation (term_of (1 ∷ (1 ∷ [])) 1) (term_of (0 ∷ (2 ∷ [])) 1 ∷ []) first_decreasing refl (omega arith),
    (first_monic quotient presentation (term_of (1 ∷ (2 ∷ [])) 1) (term_of (0 ∷ (3 ∷ [])) 1 ∷ []) second_decreasing refl (omega arith), tt),
  ),
)

-- the words s_1^2, s_1*s_2 and s_1^3 are the reducible ones of degree at most 3
abbrev s1_squared : List ℕ
s1_squared = 0 ∷ (0 ∷ (2 ∷ []))

abbrev s1_s2 : List ℕ
s1_s2 = 0 ∷ (0 ∷ (1 ∷ (1 ∷ [])))

abbrev s1_cubed : List ℕ
s1_cubed = 0 ∷ (0 ∷ (3 ∷ []))

reducible_is : (Q : List ℕ → Type 0) → EachOf Q (s1_cubed ∷ (s1_squared ∷ (s1_s2 ∷ []))) → (u : List ℕ) → IsSWord (letters quotient quotient_basis) u →
    (word_order_of (letters quotient quotient_basis)).degree u ≤ 3 → IsReducibleWord quotient quotient_basis u → Q u
reducible_is Q h u hu le r = each_of Q (s1_cubed ∷ (s1_squared ∷ (s1_s2 ∷ []))) h u
    (reducible_listed quotient presentation quotient_basis monic (λ m. nat_le 2 (exponent m 0)) 3 (omega arith, (omega arith, (omega arith, tt))) (λ m l. le_true (exponent m 0) (lead_has_squares m l)) u hu le r)
  where
    le_true : (a : ℕ) → 2 ≤ a → nat_le 2 a ≡ true
    le_true a h = grind (arith, nat_tests)

minimal_is : (u : List ℕ) → IsMinimalWord quotient quotient_basis u → (word_order_of (letters quotient quotient_basis)).degree u ≤ 3 → (u ≡ s1_squared) ⊎ (u ≡ s1_s2)
minimal_is u h le = reducible_is (λ w. IsMinimalWord quotient quotient_basis w → (w ≡ s1_squared) ⊎ (w ≡ s1_s2)) (not_minimal, ((λ m. inl refl), ((λ m. inr refl), tt))) u h.1 le h.0.reducible h
  where
    divides : Divides s1_squared s1_cubed
    divides zero = omega arith
    divides (suc zero) = omega arith
    divides (suc (suc zero)) = omega arith
    divides (suc (suc (suc i))) = omega arith

    not_minimal : IsMinimalWord quotient quotient_basis s1_cubed → (s1_cubed ≡ s1_squared) ⊎ (s1_cubed ≡ s1_s2)
    not_minimal m = inl (sym (m.0.minimal s1_squared (record { trimmed = λ e. cc; within = omega arith }) (inl x_squared_leads) divides))

-- other words of degree at most 3 are combinations
word_combination : (w : List ℕ) → IsSWord (letters quotient quotient_basis) w → (word_order_of (letters quotient quotient_basis)).degree w ≤ 3 →
    EachOf (λ x. x ≢ w) (s1_cubed ∷ (s1_squared ∷ (s1_s2 ∷ []))) → IsCombination quotient quotient_basis (word_value quotient quotient_basis w)
word_combination w h le differ = combination_word quotient presentation quotient_basis monic w h (λ r. reducible_is (λ x. x ≢ w) differ w h le r refl)

-- a difference that is a multiple of x^2 - y^2
multiple_inside : (a b by : Polynomial ℕ) → IsPoly (residues 101) 2 by → Same (residues 101) (minus (residues 101) a b) (times (residues 101) by difference_of_squares ++ []) →
    Congruent (residues 101) 2 (difference_of_squares ∷ []) a b
multiple_inside a b by h same = record {
  parts = record { by = by; of = difference_of_squares } ∷ [];
  multiples = (h, contains_here difference_of_squares [], tt);
  sums = same;
}

-- the word w is twice the word v, modulo a multiple of x^2 - y^2
twice : (w v : List ℕ) (by : Polynomial ℕ) → IsCombination quotient quotient_basis (word_value quotient quotient_basis v) → IsPoly (residues 101) 2 by →
    Same (residues 101) (minus (residues 101) (word_value quotient quotient_basis w) (times (residues 101) (constant (residues 101) 2) (word_value quotient quotient_basis v))) (times (residues 101) by difference_of_squares ++ []) →
    IsCombination quotient quotient_basis (word_value quotient quotient_basis w)
twice w v by h hb same = combination_congruent quotient presentation quotient_basis monic (times (residues 101) (constant (residues 101) 2) (word_value quotient quotient_basis v)) (word_value quotient quotient_basis w)
    (multiple_inside (word_value quotient quotient_basis w) (times (residues 101) (constant (residues 101) 2) (word_value quotient quotient_basis v)) by hb same)
    (combination_multiple quotient presentation quotient_basis monic 2 (word_value quotient quotient_basis v) refl h)

-- (x + y)^2 - 2*(xy + y^2) = x^2 - y^2
first_relation : IsCombination quotient quotient_basis (word_value quotient quotient_basis s1_squared)
unfolding coefficient
first_relation = twice s1_squared (0 ∷ (0 ∷ (0 ∷ (1 ∷ [])))) (constant (residues 101) 1)
    (word_combination (0 ∷ (0 ∷ (0 ∷ (1 ∷ [])))) (record { trimmed = λ e. cc; within = omega arith }, refl) (omega arith) ((λ e. cc), ((λ e. cc), ((λ e. cc), tt))))
    (term_in 2 [] 1 (record { trimmed = tt; within = omega arith }) refl, tt)
    (same_checked (residues 101) field plane plane_laws
    (minus (residues 101) (word_value quotient quotient_basis s1_squared) (times (residues 101) (constant (residues 101) 2) (word_value quotient quotient_basis (0 ∷ (0 ∷ (0 ∷ (1 ∷ [])))))))
    (times (residues 101) (constant (residues 101) 1) difference_of_squares ++ []) refl)

-- (x + y)*(xy + y^2) - 2*(xy^2 + y^3) = y*(x^2 - y^2)
second_relation : IsCombination quotient quotient_basis (word_value quotient quotient_basis s1_s2)
unfolding coefficient
second_relation = twice s1_s2 (0 ∷ (0 ∷ (0 ∷ (0 ∷ (1 ∷ []))))) (term_of (0 ∷ (1 ∷ [])) 1 ∷ [])
    (word_combination (0 ∷ (0 ∷ (0 ∷ (0 ∷ (1 ∷ []))))) (record { trimmed = λ e. cc; within = omega arith }, refl) (omega arith) ((λ e. cc), ((λ e. cc), ((λ e. cc), tt))))
    (term_in 2 (0 ∷ (1 ∷ [])) 1 (record { trimmed = λ e. cc; within = omega arith }) refl, tt)
    (same_checked (residues 101) field plane plane_laws
    (minus (residues 101) (word_value quotient quotient_basis s1_s2) (times (residues 101) (constant (residues 101) 2) (word_value quotient quotient_basis (0 ∷ (0 ∷ (0 ∷ (0 ∷ (1 ∷ []))))))))
    (times (residues 101) (term_of (0 ∷ (1 ∷ [])) 1 ∷ []) difference_of_squares ++ []) refl)

combinations : HasCombinationsTo quotient 3 quotient_basis
combinations = record {
  generators = λ f d k h le. each_of (IsCombination quotient quotient_basis) quotient.generators (
    combination_same quotient presentation quotient_basis monic (word_value quotient quotient_basis (0 ∷ (0 ∷ (1 ∷ [])))) sum_xy (λ m. refl)
        (word_combination (0 ∷ (0 ∷ (1 ∷ []))) (record { trimmed = λ e. cc; within = omega arith }, refl) (omega arith) ((λ e. cc), ((λ e. cc), ((λ e. cc), tt)))),
    tt,
  ) f k;
  words = λ u h le.
      ⊎_elim (λ e. subst (λ w. IsCombination quotient quotient_basis (word_value quotient quotient_basis w)) (sym e) first_relation)
      (λ e. subst (λ w. IsCombination quotient quotient_basis (word_value quotient quotient_basis w)) (sym e) second_relation) (minimal_is u h le);
}

-- xy + y^2 - 51*(x + y)^2 = 50*(x^2 - y^2)
first_inside : InSubalgebra quotient (sum_times_y 1)
unfolding coefficient
first_inside = record {
  witness = term_of (2 ∷ []) 51 ∷ [];
  poly = (term_in 1 (2 ∷ []) 51 (record { trimmed = λ e. cc; within = omega arith }) refl, tt);
  inside = multiple_inside (sum_times_y 1) (value (residues 101) (term_of (2 ∷ []) 51 ∷ []) quotient.generators) (constant (residues 101) 50)
      (term_in 2 [] 50 (record { trimmed = tt; within = omega arith }) refl, tt)
      (same_checked (residues 101) field plane plane_laws (minus (residues 101) (sum_times_y 1) (value (residues 101) (term_of (2 ∷ []) 51 ∷ []) quotient.generators))
      (times (residues 101) (constant (residues 101) 50) difference_of_squares ++ []) refl);
}

-- xy^2 + y^3 - 76*(x + y)^3 = (25*x + 75*y)*(x^2 - y^2)
second_inside : InSubalgebra quotient (sum_times_y 2)
unfolding coefficient
second_inside = record {
  witness = term_of (3 ∷ []) 76 ∷ [];
  poly = (term_in 1 (3 ∷ []) 76 (record { trimmed = λ e. cc; within = omega arith }) refl, tt);
  inside = multiple_inside (sum_times_y 2) (value (residues 101) (term_of (3 ∷ []) 76 ∷ []) quotient.generators) (term_of (1 ∷ []) 25 ∷ (term_of (0 ∷ (1 ∷ [])) 75 ∷ []))
      (term_in 2 (1 ∷ []) 25 (record { trimmed = λ e. cc; within = omega arith }) refl, (term_in 2 (0 ∷ (1 ∷ [])) 75 (record { trimmed = λ e. cc; within = omega arith }) refl, tt))
      (same_checked (residues 101) field plane plane_laws (minus (residues 101) (sum_times_y 2) (value (residues 101) (term_of (3 ∷ []) 76 ∷ []) quotient.generators))
      (times (residues 101) (term_of (1 ∷ []) 25 ∷ (term_of (0 ∷ (1 ∷ [])) 75 ∷ [])) difference_of_squares ++ []) refl);
}

-- what is checked of an element x*y^i + y^j
element : (x : List ℕ) (j : ℕ) → IsDecreasing (residues 101) plane (term_of x 1 ∷ (term_of (0 ∷ (j ∷ [])) 1 ∷ [])) → InSubalgebra quotient (term_of x 1 ∷ (term_of (0 ∷ (j ∷ [])) 1 ∷ [])) →
    exponent x 0 ≡ 1 → plane.degree (0 ∷ (j ∷ [])) ≡ plane.degree x → 1 ≤ plane.degree x → plane.degree x ≤ 3 → IsCheckedElement quotient 3 quotient_basis (term_of x 1 ∷ (term_of (0 ∷ (j ∷ [])) 1 ∷ []))
element x j f inside one same low high = first_checked quotient presentation (term_of x 1) (term_of (0 ∷ (j ∷ [])) 1 ∷ []) f refl 3 quotient_basis inside (refl, (same, tt)) low high
    (standard x f.0.term.monomial (omega arith), (standard (0 ∷ (j ∷ [])) f.1.0.term.monomial (omega arith), tt))
    (not_generated (map lead_monomial quotient_basis) (refl, (refl, (refl, tt))) (0 ∷ (j ∷ [])) (omega arith) (λ e. cc) ((λ e. cc), ((λ e. cc), ((λ e. cc), tt))), tt)

pub checked : IsCheckedBasis quotient 3 quotient_basis
checked = record {
  increasing = (refl, (refl, tt));
  elements = each_of (IsCheckedElement quotient 3 quotient_basis) quotient_basis (
    element (1 ∷ []) 1 sum_decreasing (generator_sub quotient presentation sum_xy (contains_here sum_xy [])) refl refl (omega arith) (omega arith),
    (
      element (1 ∷ (1 ∷ [])) 2 first_decreasing first_inside refl refl (omega arith) (omega arith),
      (element (1 ∷ (2 ∷ [])) 3 second_decreasing second_inside refl refl (omega arith) (omega arith), tt),
    ),
  );
  minimal = each_part (λ before s after. IsGenerated (map lead_monomial (before ++ after)) (lead_monomial s) → ⊥) quotient_basis (
    not_generated ((1 ∷ (1 ∷ [])) ∷ ((1 ∷ (2 ∷ [])) ∷ [])) (refl, (refl, tt)) (1 ∷ []) (omega arith) (λ e. cc) ((λ e. cc), ((λ e. cc), tt)),
    (
      not_generated ((1 ∷ []) ∷ ((1 ∷ (2 ∷ [])) ∷ [])) (refl, (refl, tt)) (1 ∷ (1 ∷ [])) (omega arith) (λ e. cc) ((λ e. cc), ((λ e. cc), tt)),
      (not_generated ((1 ∷ []) ∷ ((1 ∷ (1 ∷ [])) ∷ [])) (refl, (refl, tt)) (1 ∷ (2 ∷ [])) (omega arith) (λ e. cc) ((λ e. cc), ((λ e. cc), tt)), tt),
    ),
  );
  combinations = combinations;
}
