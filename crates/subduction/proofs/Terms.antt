-- Coefficients of lists of terms.
use Rattle.std.proofs.Common.{◌≡◌, ◌≢◌, ℕ, ◌+◌, ◌<◌, ◌≤◌, length, get_or, take, drop, true, false, sym, ◌∙◌, ap, subst, [], ◌∷◌, ◌++◌}
use Rattle.std.proofs.lemmas.List.{drop_all, drop_more, take-append-drop}
use Rattle.word_field.specs.Field.{FieldOps, IsField}
use Rattle.monomial_order.specs.declared.terms.Term.{Term}
use Rattle.monomial_order.specs.Monomial.{Exponents}
use Rattle.monomial_order.specs.MonomialOrder.{IsMonomialOrder, MonomialOrder}
use Rattle.polynomials.specs.Polynomial.{Polynomial, coefficient, same_monomial, IsDecreasing}
use Rattle.polynomials.specs.laws.Ring.{coefficient-append, coefficient_value}
use Rattle.polynomials.specs.laws.Same.{same_refl}
use Rattle.polynomials.specs.laws.Coefficients.{nothing_at, no_coefficient, single_term}
use Rattle.polynomials.specs.laws.Decreasing.{coefficient_first}
use Rattle.word_field.specs.laws.Field.{zero-plus}

module _ {E : Type 0} (K : FieldOps E) (F : IsField K) where
  -- a term at another monomial changes no coefficient
  pub other_term : (t : Term E) (p : Polynomial E) (m : Exponents) → t.at ≢ m → coefficient K (t ∷ p) m ≡ coefficient K p m
  other_term t p m n =
      coefficient-append K F (t ∷ []) p m ∙
      (ap (λ x. K.plus x (coefficient K p m)) (no_coefficient K F (t ∷ []) m (λ k. n (single_term K F t.at t.by m k))) ∙
      (zero-plus K F (coefficient K p m) ∙ coefficient_value K F p m))

pub decreasing_part : {E : Type 0} (K : FieldOps E) (O : MonomialOrder) (p q : Polynomial E) → IsDecreasing K O (p ++ q) → IsDecreasing K O q
decreasing_part K O [] q h = h
decreasing_part K O (t ∷ p) q h = decreasing_part K O p q h.1

module _ {E : Type 0} (K : FieldOps E) (F : IsField K) where
  part_is : (a : Polynomial E) (i : ℕ) (t : Term E) → i < length a → t ≡ get_or a i t → drop i a ≡ t ∷ drop (i + 1) a
  part_is a i t l q = drop_more a i t l ∙ ap (λ x. x ∷ drop (i + 1) a) (sym q)

  pub coefficient_here : (O : MonomialOrder) → IsMonomialOrder O → (a : Polynomial E) (i : ℕ) (t : Term E) (m : Exponents) → IsDecreasing K O a → i < length a → t ≡ get_or a i t → t.at ≡ m →
      coefficient K (drop i a) m ≡ coefficient K a m → t.by ≡ coefficient K a m
  coefficient_here O M a i t m h l q at inv =
      let e = part_is a i t l q in
      let f : IsDecreasing K O (drop i a) = decreasing_part K O (take i a) (drop i a) (subst (IsDecreasing K O) (sym (take-append-drop i a)) h) in
      let g : IsDecreasing K O (t ∷ drop (i + 1) a) = subst (IsDecreasing K O) e f in
      sym (coefficient_first K F O M t (drop (i + 1) a) g.0) ∙ (ap (coefficient K (t ∷ drop (i + 1) a)) at ∙ (ap (λ p. coefficient K p m) (sym e) ∙ inv))

  pub coefficient_next : (a : Polynomial E) (i : ℕ) (t : Term E) (m : Exponents) → i < length a → t ≡ get_or a i t → t.at ≢ m →
      coefficient K (drop i a) m ≡ coefficient K a m → coefficient K (drop (i + 1) a) m ≡ coefficient K a m
  coefficient_next a i t m l q n inv =
      sym (other_term K F t (drop (i + 1) a) m n) ∙ (ap (λ p. coefficient K p m) (sym (part_is a i t l q)) ∙ inv)

  pub coefficient_none : (a : Polynomial E) (i : ℕ) (m : Exponents) → length a ≤ i → coefficient K (drop i a) m ≡ coefficient K a m → K.zero ≡ coefficient K a m
  coefficient_none a i m l inv = nothing_at K m ∙ (ap (λ p. coefficient K p m) (sym (drop_all i a l)) ∙ inv)

pub differ : (m n : Exponents) → same_monomial m n ≡ false → m ≢ n
differ m n f e = let q : true ≡ false = sym (subst (λ x. same_monomial m x ≡ true) e (same_refl m)) ∙ f in cc
