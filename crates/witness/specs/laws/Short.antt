-- Sums and multiples of short witnesses are short.
use Rattle.std.proofs.Common.{◌≡◌, ◌≢◌, ℕ, ◌∙◌, ap, subst, ◌++◌, [], refl, inl, inr, ⊎_elim, ◌<◌}
use Rattle.word_field.specs.Field.{FieldOps, IsField}
use Rattle.word_field.specs.laws.Field.{times-zero}
use Rattle.monomial_order.specs.Monomial.{Exponents, exponent, variable}
use Rattle.polynomials.specs.Polynomial.{Polynomial, coefficient, Same}
use Rattle.polynomials.specs.laws.Coefficients.{append_nonzero, single_term}
use Rattle.witness.specs.Tracking.{letter_poly, IsShort}

module _ {E : Type 0} (K : FieldOps E) (F : IsField K) (k : ℕ) where
  pub short_zero : IsShort K k []
  unfolding coefficient
  short_zero m n = absurd (n refl)

  -- only the coefficients count
  pub short_same : (p q : Polynomial E) → Same K q p → IsShort K k p → IsShort K k q
  short_same p q s h m n = h m (λ z. n (s m ∙ z))

  pub short_sum : (p q : Polynomial E) → IsShort K k p → IsShort K k q → IsShort K k (p ++ q)
  short_sum p q hp hq m n = ⊎_elim (hp m) (hq m) (append_nonzero K F p q m n)

  pub short_multiple : (c : E) (p q : Polynomial E) → ((m : Exponents) → coefficient K q m ≡ K.times c (coefficient K p m)) → IsShort K k p → IsShort K k q
  short_multiple c p q s h m n = h m (λ z. n (s m ∙ (ap (K.times c) z ∙ times-zero K F c)))

  -- the letter of a generator is short
  pub short_letter : (i : ℕ) → i < k → IsShort K k (letter_poly K i)
  short_letter i l m n = inl (i, l, let e = single_term K F (variable i) K.one m n in subst (λ x. x ≡ variable i) e refl)

  -- and so is what has no letters of generators
  pub short_elements : (p : Polynomial E) → ((m : Exponents) → coefficient K p m ≢ K.zero → (i : ℕ) → i < k → exponent m i ≡ 0) → IsShort K k p
  short_elements p h m n = inr (h m n)
