-- Power sums are canonical and homogeneous.
use Rattle.std.proofs.Common.{◌≡◌, ℕ, zero, suc, ◌+◌, ◌<◌, ◌≤◌, inr, [], ◌∷◌, ◌++◌, map, refl, sym, ap, ◌∙◌, arith}
use Rattle.std.specs.List.{range_with_len}
use Rattle.std.proofs.lemmas.List.FromFn.{length-map-range_with_len, map-range_with_len_more}
use Rattle.word_field.specs.Field.{FieldOps, IsField}
use Rattle.monomial_order.specs.declared.terms.Term.{Term}
use Rattle.polynomials.specs.Polynomial.{Polynomial, term_of, IsBelow, IsDecreasing, IsSmall, AllAt}
use Rattle.polynomials.specs.laws.Decreasing.{coefficient_first}
use Rattle.polynomials.specs.laws.Degrees.{all_found}
use Rattle.monomial_order.specs.Limits.{degree_max}
use Rattle.poly_core.specs.Presentation.{IsCanonicalGenerator, AreCanonicalGenerators, IsCanonicalList, generator_degree}
use Rattle.power_sums.specs.PowerSums.{power, power_sum, sums_to, unit_order}
use Rattle.power_sums.proofs.Powers.{power_monomial, power_degree, power_falls, unit_laws}

module _ {E : Type 0} (K : FieldOps E) (F : IsField K) where
  -- the terms for n places, from a on
  abbrev terms : ℕ → ℕ → ℕ → Polynomial E
  terms d a n = map (λ i. term_of (power i d) K.one) (range_with_len a n)

  -- the terms are decreasing, and all of the degree d
  module _ (m d : ℕ) (some : 1 ≤ d) where
    below : (i a n : ℕ) → i < a → a + n ≤ m → IsBelow K (unit_order m) (power i d) (terms d a n)
    below i a zero l r = tt
    below i a (suc n) l r = (power_falls m i a d some l (omega arith), below i (a + 1) n (omega arith) (omega arith))

    decreasing : (a n : ℕ) → a + n ≤ m → IsDecreasing K (unit_order m) (terms d a n)
    decreasing a zero r = tt
    decreasing a (suc n) r = (
      record {
        term = record { monomial = power_monomial m a d (omega arith) some; value = F.one_value };
        nonzero = F.one_not_zero;
        above = below a (a + 1) n (omega arith) (omega arith);
      },
      decreasing (a + 1) n (omega arith),
    )

    degrees : (a n : ℕ) → a + n ≤ m → AllAt (λ k. (unit_order m).degree k ≡ d) (terms d a n)
    degrees a zero r = tt
    degrees a (suc n) r = (power_degree m a d (omega arith), degrees (a + 1) n (omega arith))

    small : (a n : ℕ) → d ≤ degree_max → a + n ≤ m → IsSmall (unit_order m) (terms d a n)
    small a zero l r = tt
    small a (suc n) l r = (let e = power_degree m a d (omega arith) in omega arith, small (a + 1) n l (omega arith))

  -- one more term
  pub sum_push : (old new : Polynomial E) (t : Term E) (m d : ℕ) → old ≡ power_sum K m d → new ≡ old ++ t ∷ [] → t.at ≡ power m d → t.by ≡ K.one →
      new ≡ power_sum K (m + 1) d
  sum_push old new t m d before push at by =
      let is : t ≡ term_of (power m d) K.one = λ i. term_of (at i) (by i) in
      push ∙ (ap (λ ts. ts ++ t ∷ []) before ∙ (ap (λ u. power_sum K m d ++ u ∷ []) is ∙
      sym (map-range_with_len_more (λ i. term_of (power i d) K.one) 0 m m (omega arith))))

  -- the sum of powers of at least one variable may be a generator
  sum_generator : (m d : ℕ) → 1 ≤ d → d ≤ degree_max → IsCanonicalGenerator K (unit_order (suc m)) (power_sum K (suc m) d)
  sum_generator m d some few =
      let falls : IsDecreasing K (unit_order (suc m)) (power_sum K (suc m) d) = decreasing (suc m) d some 0 (suc m) (omega arith) in
      let first = coefficient_first K F (unit_order (suc m)) (unit_laws (suc m)) (term_of (power 0 d) K.one) (terms d 1 m) falls.0 in
      record {
        canonical = record { decreasing = falls; small = small (suc m) d some 0 (suc m) few (omega arith) };
        homogeneous = inr (
          d,
          some,
          few,
          record {
            some = (power 0 d, λ z. F.one_not_zero (sym first ∙ z));
            each = all_found K F (unit_order (suc m)) (unit_laws (suc m)) (λ k. (unit_order (suc m)).degree k ≡ d) (power_sum K (suc m) d) (degrees (suc m) d some 0 (suc m) (omega arith));
          },
        );
      }

  -- the sums with n exponents, from a on
  generators_from : (m a n : ℕ) → 1 ≤ a → a + n ≤ suc degree_max → AreCanonicalGenerators K (unit_order (suc m)) (map (power_sum K (suc m)) (range_with_len a n))
  generators_from m a zero l r = tt
  generators_from m a (suc n) l r = (sum_generator m a l (omega arith), generators_from m (a + 1) n (omega arith) (omega arith))

  pub canonical_sums : (m : ℕ) → 1 ≤ m → m ≤ 32 → IsCanonicalList K (unit_order m) (sums_to K m)
  canonical_sums zero l r = absurd (omega arith)
  canonical_sums (suc m) l r = record {
    each = generators_from m 1 (suc m) (omega arith) (omega arith);
    few = omega (arith, length-map-range_with_len (power_sum K (suc m)) 1 (suc m));
  }

  degrees_from : (m a n : ℕ) → map (generator_degree (unit_order (suc m))) (map (power_sum K (suc m)) (range_with_len a n)) ≡ range_with_len a n
  degrees_from m a zero = refl
  degrees_from m a (suc n) =
      ap (λ d. d ∷ map (generator_degree (unit_order (suc m))) (map (power_sum K (suc m)) (range_with_len (a + 1) n))) (power_degree (suc m) 0 a (omega arith)) ∙
      ap (λ ds. a ∷ ds) (degrees_from m (a + 1) n)

  pub sums_degrees : (m : ℕ) → 1 ≤ m → map (generator_degree (unit_order m)) (sums_to K m) ≡ range_with_len 1 m
  sums_degrees zero l = absurd (omega arith)
  sums_degrees (suc m) l = degrees_from m 1 (suc m)
