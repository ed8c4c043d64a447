-- The subalgebra that x + y, xy and xy^2 generate, to the degree 4.
use Rattle.monomial_order.specs.laws.Monomial.{weighted_nil}
use Rattle.std.proofs.Common.{◌≡◌, ◌≢◌, ℕ, ◌≤◌, refl, sym, ◌∙◌, ap, subst, List, [], ◌∷◌, ◌++◌, ◌⊎◌, inl, inr, ⊎_elim, arith, false}
use Rattle.std.specs.Prelude.{Contains, map}
use Rattle.std.specs.declared.cmp.Ordering.TheVariants.{Less}
use Rattle.word_field.specs.Residues.{residues}
use Rattle.monomial_order.specs.Monomial.{weighted_degree, IsMonomial}
use Rattle.monomial_order.specs.laws.Lists.{contains_here}
use Rattle.word_laws.specs.Words.{word_order_of, image_of, IsSWord}
use Rattle.polynomials.specs.Polynomial.{Polynomial, coefficient, Same, term_of, lead_monomial}
use Rattle.polynomials.specs.Ideal.{Congruent}
use Rattle.polynomials.specs.Value.{value}
use Rattle.polynomials.specs.Subalgebra.{IsPresentation, IsGenerator, InSubalgebra, LeadsIdeal, IsStandard, IsGenerated, IsDecidedTo}
use Rattle.polynomials.specs.laws.Decreasing.{coefficient_first}
use Rattle.polynomials.specs.laws.Degrees.{all_found}
use Rattle.polynomials.specs.laws.Congruence.{congruent_same}
use Rattle.subalgebra_laws.specs.Words.{letters, word_value, combination_value, IsReducibleWord, IsIrreducibleSum, IsTopWord, IsCombination}
use Rattle.subalgebra_laws.specs.Bases.{IsMonicElement, AreMonicElements, AreNextTo, HasCombinationsTo, HasCombinationsAt, IsCheckedElement, IsCheckedBasis}
use Rattle.subalgebra_laws.specs.Samples.{sum_xy, x_times_y, endless, endless_basis, endless_word, right_side}
use Rattle.subalgebra_laws.proofs.Plane.{field, plane, plane_laws, term_in, sum_decreasing, product_decreasing}
use Rattle.subalgebra_laws.proofs.Letters.{letter_laws}
use Rattle.subalgebra_laws.proofs.Combinations.{IsIrreducible, combination_same, combination_word}
use Rattle.subalgebra_laws.proofs.Growing.{front_monic}
use Rattle.subalgebra_laws.specs.laws.Members.{generator_sub}
use Rattle.subalgebra_laws.proofs.SampleTools.{each_of, each_part, reducible_listed, same_checked, first_homogeneous, first_monic, first_checked, not_generated, no_leads}

pub presentation : IsPresentation endless
presentation = record {
  field = field;
  order = plane_laws;
  ideal = tt;
  generators = (
    record {
      poly = (sum_decreasing.0.term, (sum_decreasing.1.0.term, tt));
      homogeneous = inr (1, omega arith, first_homogeneous (residues 101) field plane plane_laws 1 (term_of (1 ∷ []) 1) (term_of (0 ∷ (1 ∷ [])) 1 ∷ []) sum_decreasing (refl, (refl, tt)));
    },
    (product 1 (omega arith), (product 2 (omega arith), tt)),
  );
}
  where
    product : (e : ℕ) → 1 ≤ e → IsGenerator (residues 101) plane (x_times_y e)
    product e n = record {
      poly = ((product_decreasing e n).0.term, tt);
      homogeneous = inr (plane.degree (1 ∷ (e ∷ [])), omega arith, first_homogeneous (residues 101) field plane plane_laws (plane.degree (1 ∷ (e ∷ []))) (term_of (1 ∷ (e ∷ [])) 1) [] (product_decreasing e n) (refl, tt));
    }

no_lead : (m : List ℕ) → LeadsIdeal endless m → ⊥
no_lead = no_leads endless field refl

pub decided : (c : ℕ) → IsDecidedTo endless c
decided c m hm d = inr (no_lead m)

standard : (m : List ℕ) → IsMonomial 2 m → IsStandard endless m
standard m h = record { monomial = h; no_lead = no_lead m }

pub monic : AreMonicElements endless endless_basis
monic = each_of (IsMonicElement endless) endless_basis
    (first_monic endless presentation (term_of (1 ∷ []) 1) (term_of (0 ∷ (1 ∷ [])) 1 ∷ []) sum_decreasing refl (omega arith), (product 1 (omega arith), (product 2 (omega arith), (product 3 (omega arith), tt))))
  where
    product : (e : ℕ) → 1 ≤ e → IsMonicElement endless (x_times_y e)
    product e n = first_monic endless presentation (term_of (1 ∷ (e ∷ [])) 1) [] (product_decreasing e n) refl (omega arith)

start_monic : AreMonicElements endless endless.generators
start_monic = front_monic endless presentation endless.generators (x_times_y 3 ∷ []) monic

-- s_2^2, and the only reducible word of degree at most 4: s_1*s_3
abbrev pub s2_squared : List ℕ
s2_squared = 0 ∷ (0 ∷ (0 ∷ (2 ∷ [])))

reducible_is : (u : List ℕ) → IsSWord (letters endless endless_basis) u → (word_order_of (letters endless endless_basis)).degree u ≤ 4 → IsReducibleWord endless endless_basis u → u ≡ endless_word
reducible_is u hu le r = each_of (λ w. w ≡ endless_word) (endless_word ∷ []) (refl, tt) u
    (reducible_listed endless presentation endless_basis monic (λ m. false) 4 (omega arith, (omega arith, (omega arith, (omega arith, tt)))) (λ m l. absurd (no_lead m l)) u hu le r)

start_reducible_is : (u : List ℕ) → IsSWord (letters endless endless.generators) u → (word_order_of (letters endless endless.generators)).degree u ≤ 4 → IsReducibleWord endless endless.generators u → u ≡ endless_word
start_reducible_is u hu le r = each_of (λ w. w ≡ endless_word) (endless_word ∷ []) (refl, tt) u
    (reducible_listed endless presentation endless.generators start_monic (λ m. false) 4 (omega arith, (omega arith, (omega arith, tt))) (λ m l. absurd (no_lead m l)) u hu le r)

irreducible : (w : List ℕ) → IsSWord (letters endless endless_basis) w → (word_order_of (letters endless endless_basis)).degree w ≤ 4 → w ≢ endless_word → IsIrreducible endless presentation endless_basis monic w
irreducible w h le ne = (h, λ r. ne (reducible_is w h le r))

-- s_2^2 + s_4 is a sum of irreducible words, and s_2^2 its word with the greatest image
pub right_side_sum : IsIrreducibleSum endless endless_basis right_side
right_side_sum = record {
  decreasing = (record { term = record { monomial = a.0; value = refl }; nonzero = λ e. cc; above = (refl, tt) }, (record { term = record { monomial = b.0; value = refl }; nonzero = λ e. cc; above = tt }, tt));
  words = λ w k. (at_word w k).0;
  irreducible = λ w k. (at_word w k).1;
}
  where
    a : IsSWord (letters endless endless_basis) s2_squared
    a = (record { trimmed = λ e. cc; within = omega arith }, refl)

    b : IsSWord (letters endless endless_basis) (0 ∷ (0 ∷ (0 ∷ (0 ∷ (0 ∷ (1 ∷ []))))))
    b = (record { trimmed = λ e. cc; within = omega arith }, refl)

    at_word : (w : List ℕ) → coefficient (residues 101) right_side w ≢ 0 → IsIrreducible endless presentation endless_basis monic w
    at_word = all_found (residues 101) field (word_order_of (letters endless endless_basis)) (letter_laws endless presentation endless_basis monic) (IsIrreducible endless presentation endless_basis monic) right_side
        (irreducible s2_squared a (omega arith) (λ e. cc), (irreducible (0 ∷ (0 ∷ (0 ∷ (0 ∷ (0 ∷ (1 ∷ [])))))) b (omega arith) (λ e. cc), tt))

pub right_side_top : IsTopWord endless endless_basis right_side s2_squared
right_side_top = record {
  nonzero = λ z. right_side_sum.decreasing.0.nonzero (sym (coefficient_first (residues 101) field (word_order_of (letters endless endless_basis)) (letter_laws endless presentation endless_basis monic)
      (term_of s2_squared 1) (term_of (0 ∷ (0 ∷ (0 ∷ (0 ∷ (0 ∷ (1 ∷ [])))))) 1 ∷ []) right_side_sum.decreasing.0) ∙ z);
  greatest = λ v k ne. ⊎_elim (λ e. absurd (ne e)) (λ e. subst (λ w. plane.compare (image_of (letters endless endless_basis) w) (2 ∷ (2 ∷ [])) ≡ Less) (sym e) refl)
      (all_found (residues 101) field (word_order_of (letters endless endless_basis)) (letter_laws endless presentation endless_basis monic)
      (λ w. (w ≡ s2_squared) ⊎ (w ≡ 0 ∷ (0 ∷ (0 ∷ (0 ∷ (0 ∷ (1 ∷ []))))))) right_side (inl refl, (inr refl, tt)) v k);
}

pub relation : Congruent (residues 101) 2 [] (word_value endless endless_basis endless_word) (combination_value endless endless_basis right_side)
relation = congruent_same (residues 101) field 2 [] (word_value endless endless_basis endless_word) (combination_value endless endless_basis right_side) (λ m. refl)

-- each generator is the value of its letter
module _ (T : List (Polynomial ℕ)) (HS : AreMonicElements endless (endless.generators ++ T))
    (only : (u : List ℕ) → IsSWord (letters endless (endless.generators ++ T)) u → (word_order_of (letters endless (endless.generators ++ T))).degree u ≤ 4 → IsReducibleWord endless (endless.generators ++ T) u → u ≡ endless_word) where
  abbrev S : List (Polynomial ℕ)
  S = endless.generators ++ T

  letter : (f : Polynomial ℕ) (w : List ℕ) → IsSWord (letters endless S) w → (word_order_of (letters endless S)).degree w ≤ 4 → w ≢ endless_word → Same (residues 101) f (word_value endless S w) → IsCombination endless S f
  letter f w h le ne same = combination_same endless presentation S HS (word_value endless S w) f same (combination_word endless presentation S HS w h (λ r. ne (only w h le r)))

  generator_combinations : (f : Polynomial ℕ) → Contains endless.generators f → IsCombination endless S f
  generator_combinations = each_of (IsCombination endless S) endless.generators (
    letter sum_xy (0 ∷ (0 ∷ (1 ∷ []))) (record { trimmed = λ e. cc; within = omega arith }, refl) (omega arith) (λ e. cc) (λ m. refl),
    (
      letter (x_times_y 1) (0 ∷ (0 ∷ (0 ∷ (1 ∷ [])))) (record { trimmed = λ e. cc; within = omega arith }, refl) (omega arith) (λ e. cc) (λ m. refl),
      (letter (x_times_y 2) (0 ∷ (0 ∷ (0 ∷ (0 ∷ (1 ∷ []))))) (record { trimmed = λ e. cc; within = omega arith }, refl) (omega (arith, weighted_nil (map (weighted_degree (letters endless S).degrees) (map lead_monomial T)))) (λ e. cc) (λ m. refl), tt),
    ),
  )

pub combinations : HasCombinationsTo endless 4 endless_basis
combinations = record {
  generators = λ f d k h le. generator_combinations (x_times_y 3 ∷ []) monic reducible_is f k;
  words = λ u h le. subst (λ w. IsCombination endless endless_basis (word_value endless endless_basis w)) (sym (reducible_is u h.1 le h.0.reducible)) (record { sum = right_side; irreducible = right_side_sum; equal = relation });
}

start_combinations : HasCombinationsTo endless 3 endless.generators
start_combinations = record {
  generators = λ f d k h le. generator_combinations [] start_monic start_reducible_is f k;
  words = λ u h le.
      let four : (word_order_of (letters endless endless.generators)).degree u ≡ 4 = ap (word_order_of (letters endless endless.generators)).degree (start_reducible_is u h.1 (omega arith) h.0.reducible) in
      absurd (omega arith);
}

-- x*y^3 = (x + y)*x*y^2 - (x*y)^2
fourth_same : Same (residues 101) (x_times_y 3) (value (residues 101) (term_of (1 ∷ (0 ∷ (1 ∷ []))) 1 ∷ (term_of (0 ∷ (2 ∷ [])) 100 ∷ [])) endless.generators)
unfolding coefficient
fourth_same = same_checked (residues 101) field plane plane_laws (x_times_y 3) (value (residues 101) (term_of (1 ∷ (0 ∷ (1 ∷ []))) 1 ∷ (term_of (0 ∷ (2 ∷ [])) 100 ∷ [])) endless.generators) refl

fourth_inside : InSubalgebra endless (x_times_y 3)
fourth_inside = record {
  witness = term_of (1 ∷ (0 ∷ (1 ∷ []))) 1 ∷ (term_of (0 ∷ (2 ∷ [])) 100 ∷ []);
  poly = (term_in 3 (1 ∷ (0 ∷ (1 ∷ []))) 1 (record { trimmed = λ e. cc; within = omega arith }) refl, (term_in 3 (0 ∷ (2 ∷ [])) 100 (record { trimmed = λ e. cc; within = omega arith }) refl, tt));
  inside = congruent_same (residues 101) field 2 [] (x_times_y 3) (value (residues 101) (term_of (1 ∷ (0 ∷ (1 ∷ []))) 1 ∷ (term_of (0 ∷ (2 ∷ [])) 100 ∷ [])) endless.generators) fourth_same;
}

product_element : (c : ℕ) (S : List (Polynomial ℕ)) (e : ℕ) → 1 ≤ e → InSubalgebra endless (x_times_y e) → plane.degree (1 ∷ (e ∷ [])) ≤ c → IsCheckedElement endless c S (x_times_y e)
product_element c S e n inside le = first_checked endless presentation (term_of (1 ∷ (e ∷ [])) 1) [] (product_decreasing e n) refl c S inside (refl, tt) (omega arith) le
    (standard (1 ∷ (e ∷ [])) (product_decreasing e n).0.term.monomial, tt) tt

-- from the degree 3, to which the generators are the basis, to the degree 4
pub next_to : AreNextTo endless 4 endless.generators (x_times_y 3 ∷ [])
next_to = record {
  after = record {
    monic = monic;
    degree = each_of (λ t. 4 ≤ endless.order.degree (lead_monomial t)) (x_times_y 3 ∷ []) (omega arith, tt);
    new = each_of (λ t. IsGenerated (map lead_monomial endless.generators) (lead_monomial t) → ⊥) (x_times_y 3 ∷ [])
        (not_generated (map lead_monomial endless.generators) (refl, (refl, (refl, tt))) (1 ∷ (3 ∷ [])) (omega arith) (λ e. cc) ((λ e. cc), ((λ e. cc), ((λ e. cc), tt))), tt);
  };
  standard = each_of (λ t. IsStandard endless (lead_monomial t)) (x_times_y 3 ∷ []) (standard (1 ∷ (3 ∷ [])) (product_decreasing 3 (omega arith)).0.term.monomial, tt);
  increasing = tt;
}

pub start_checked : IsCheckedBasis endless 3 endless.generators
start_checked = record {
  increasing = (refl, (refl, tt));
  elements = each_of (IsCheckedElement endless 3 endless.generators) endless.generators (
    first_checked endless presentation (term_of (1 ∷ []) 1) (term_of (0 ∷ (1 ∷ [])) 1 ∷ []) sum_decreasing refl 3 endless.generators (generator_sub endless presentation sum_xy (contains_here sum_xy (x_times_y 1 ∷ (x_times_y 2 ∷ []))))
        (refl, (refl, tt)) (omega arith) (omega arith) (standard (1 ∷ []) sum_decreasing.0.term.monomial, (standard (0 ∷ (1 ∷ [])) sum_decreasing.1.0.term.monomial, tt))
        (not_generated (map lead_monomial endless.generators) (refl, (refl, (refl, tt))) (0 ∷ (1 ∷ [])) (omega arith) (λ e. cc) ((λ e. cc), ((λ e. cc), ((λ e. cc), tt))), tt),
    (
      product_element 3 endless.generators 1 (omega arith) (generator_sub endless presentation (x_times_y 1) (1, omega arith, refl)) (omega arith),
      (product_element 3 endless.generators 2 (omega arith) (generator_sub endless presentation (x_times_y 2) (2, omega arith, refl)) (omega arith), tt),
    ),
  );
  minimal = each_part (λ before s after. IsGenerated (map lead_monomial (before ++ after)) (lead_monomial s) → ⊥) endless.generators (
    not_generated ((1 ∷ (1 ∷ [])) ∷ ((1 ∷ (2 ∷ [])) ∷ [])) (refl, (refl, tt)) (1 ∷ []) (omega arith) (λ e. cc) ((λ e. cc), ((λ e. cc), tt)),
    (
      not_generated ((1 ∷ []) ∷ ((1 ∷ (2 ∷ [])) ∷ [])) (refl, (refl, tt)) (1 ∷ (1 ∷ [])) (omega arith) (λ e. cc) ((λ e. cc), ((λ e. cc), tt)),
      (not_generated ((1 ∷ []) ∷ ((1 ∷ (1 ∷ [])) ∷ [])) (refl, (refl, tt)) (1 ∷ (2 ∷ [])) (omega arith) (λ e. cc) ((λ e. cc), ((λ e. cc), tt)), tt),
    ),
  );
  combinations = start_combinations;
}

-- what is asked at the degree 4
pub fourth_element : (t : Polynomial ℕ) → Contains (x_times_y 3 ∷ []) t → IsCheckedElement endless 4 endless_basis t
fourth_element = each_of (IsCheckedElement endless 4 endless_basis) (x_times_y 3 ∷ []) (product_element 4 endless_basis 3 (omega arith) fourth_inside (omega arith), tt)

pub fourth_combinations : HasCombinationsAt endless 4 endless.generators (x_times_y 3 ∷ [])
fourth_combinations = record {
  generators = λ f k h. combinations.generators f 4 k h (omega arith);
  words = λ u h e.
      subst (λ w. IsCombination endless endless_basis (word_value endless endless.generators w)) (sym (start_reducible_is u h.1 (omega arith) h.0.reducible))
      (record { sum = right_side; irreducible = right_side_sum; equal = relation });
}

pub generators_combine : IsCombination endless endless_basis sum_xy × IsCombination endless endless_basis (x_times_y 1)
generators_combine = (
  combinations.generators sum_xy 1 (0, omega arith, refl) (first_homogeneous (residues 101) field plane plane_laws 1 (term_of (1 ∷ []) 1) (term_of (0 ∷ (1 ∷ [])) 1 ∷ []) sum_decreasing (refl, (refl, tt))) (omega arith),
  combinations.generators (x_times_y 1) 2 (1, omega arith, refl) (first_homogeneous (residues 101) field plane plane_laws 2 (term_of (1 ∷ (1 ∷ [])) 1) [] (product_decreasing 1 (omega arith)) (refl, tt)) (omega arith),
)
