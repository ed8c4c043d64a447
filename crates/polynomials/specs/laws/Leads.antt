-- The first term of a decreasing list, and its rest.
use Rattle.std.proofs.Common.{◌≡◌, ◌≢◌, refl, sym, ◌∙◌, ap, subst, [], ◌∷◌, cond, true, false}
use Rattle.std.specs.declared.cmp.Ordering.TheVariants.{Less}
use Rattle.word_field.specs.Field.{FieldOps, IsField}
use Rattle.word_field.specs.laws.Field.{zero-plus-zero, zero-plus}
use Rattle.monomial_order.specs.declared.terms.Term.{Term}
use Rattle.monomial_order.specs.MonomialOrder.{MonomialOrder, IsMonomialOrder}
use Rattle.polynomials.specs.Polynomial.{Polynomial, same_monomial, coefficient, IsBelow, IsLeadTerm}
use Rattle.polynomials.specs.laws.Ring.{coefficient_value}
use Rattle.polynomials.specs.laws.Same.{same_true}
use Rattle.monomial_order.specs.laws.Comparing.{not_below_self}
use Rattle.monomial_order.specs.Monomial.{Exponents}

module _ {E : Type 0} (K : FieldOps E) (F : IsField K) (O : MonomialOrder) (L : IsMonomialOrder O) where
  -- a monomial with a nonzero coefficient is below what all terms are below
  pub below_found : (m : Exponents) (p : Polynomial E) → IsBelow K O m p → (n : Exponents) → coefficient K p n ≢ K.zero → O.compare n m ≡ Less
  unfolding coefficient
  below_found m [] h n k = absurd (k refl)
  below_found m (t ∷ p) h n k =
      elim (same_monomial t.at n) as (λ b. same_monomial t.at n ≡ b → O.compare n m ≡ Less) [
        | true ↦ λ e. subst (λ x. O.compare x m ≡ Less) (same_true t.at n e) h.0
        | false ↦ λ e. below_found m p h.1 n (λ z. k (ap (λ b. K.plus (cond b t.by K.zero) (coefficient K p n)) e ∙ (ap (K.plus K.zero) z ∙ zero-plus-zero K F)))
      ] refl

  -- below its first term a decreasing list has the coefficients of its rest
  pub tail_zero : (t : Term E) (e : Polynomial E) → IsLeadTerm K O t e → (w : Exponents) →
      coefficient K e w ≢ K.zero → coefficient K (t ∷ e) w ≡ K.zero → coefficient K e w ≡ K.zero
  unfolding coefficient
  tail_zero t e h w c z =
      elim (same_monomial t.at w) as (λ b. same_monomial t.at w ≡ b → coefficient K e w ≡ K.zero) [
        | true ↦ λ s. absurd (not_below_self O L w (subst (λ x. O.compare w x ≡ Less) (same_true t.at w s) (below_found t.at e h.above w c)))
        | false ↦ λ s. sym (coefficient_value K F e w) ∙ (sym (zero-plus K F (coefficient K e w)) ∙ (ap (λ b. K.plus (cond b t.by K.zero) (coefficient K e w)) (sym s) ∙ z))
      ] refl
