-- Degrees of canonical polynomials.
use Rattle.std.proofs.Common.{◌≡◌, ◌≢◌, ℕ, ◌≤◌, List, [], ◌∷◌, refl, sym, ap, subst, ◌∙◌, ⊎_elim, arith}
use Rattle.std.specs.declared.cmp.Ordering.TheVariants.{Less, Equal, Greater}
use Rattle.word_field.specs.Field.{FieldOps, IsField}
use Rattle.monomial_order.specs.Limits.{degree_max}
use Rattle.monomial_order.specs.Monomial.{Exponents}
use Rattle.monomial_order.specs.MonomialOrder.{MonomialOrder, IsMonomialOrder}
use Rattle.monomial_order.specs.declared.weight_order.WeightOrder.{WeightOrder}
use Rattle.monomial_order.specs.laws.Comparing.{degree_falls}
use Rattle.monomial_order.specs.laws.Ties.{weight_laws}
use Rattle.poly_core.specs.Presentation.{weight_order_of}
use Rattle.polynomials.specs.Polynomial.{Polynomial, coefficient, degree_of, lead_monomial, IsBelow, IsCanonical, IsDecreasing, IsDegree, IsHomogeneous, IsLead, IsZeroOrHomogeneous, AllAt}
use Rattle.polynomials.specs.laws.Coefficients.{decreasing_leads, nothing_at}
use Rattle.polynomials.specs.laws.Decreasing.{IsDecreasing_unique}
use Rattle.polynomials.specs.laws.Degrees.{all_found, decreasing_all}
use Rattle.polynomial_text.specs.Degrees.{IsLow}
use Rattle.state_text.specs.Limits.{bound_max}

pub order_laws : (o : WeightOrder) → IsMonomialOrder (weight_order_of o)
order_laws o = weight_laws o.weights.items o.rows.items o.tie o.weights_in_range

module _ {E : Type 0} (K : FieldOps E) (F : IsField K) (O : MonomialOrder) (L : IsMonomialOrder O) where
  -- a polynomial with a coefficient is not zero
  pub not_zero : (a : Polynomial E) (m : Exponents) → coefficient K a m ≢ K.zero → a ≢ []
  not_zero a m n e = n (subst (λ q. coefficient K q m ≡ K.zero) (sym e) (sym (nothing_at K m)))

  module _ (a : Polynomial E) (h : IsDecreasing K O a) where
    pub lead_nonzero : a ≢ [] → coefficient K a (lead_monomial a) ≢ K.zero
    lead_nonzero n = (decreasing_leads K F O L a h n).nonzero

    -- the degree of the lead is the greatest
    below_lead : (p : Polynomial E) (m : Exponents) → IsBelow K O m p → AllAt (λ v. O.degree v ≤ O.degree m) p
    below_lead [] m b = tt
    below_lead (t ∷ p) m b = (degree_falls O L t.at m b.0, below_lead p m b.1)

    pub degrees_to_lead : (m : Exponents) → coefficient K a m ≢ K.zero → O.degree m ≤ degree_of O a
    degrees_to_lead = all_found K F O L (λ v. O.degree v ≤ degree_of O a) a (from a h)
      where
        from : (p : Polynomial E) → IsDecreasing K O p → AllAt (λ v. O.degree v ≤ degree_of O p) p
        from [] d = tt
        from (t ∷ p) d = (omega arith, below_lead p t.at d.0.above)

    pub degree_is : (d : ℕ) → IsDegree K O d a → d ≡ degree_of O a
    degree_is d k =
        let lead = k.greatest (lead_monomial a) (lead_nonzero (not_zero a k.some.0 k.some.1)) in
        omega (arith, lead, degrees_to_lead k.some.0 k.some.1, k.some.2)

    -- if all degrees are one, it is that of the lead
    pub homogeneous_is : a ≢ [] → IsZeroOrHomogeneous K O a → IsHomogeneous K O (degree_of O a) a
    homogeneous_is n z =
        ⊎_elim
        (λ same. absurd (n (IsDecreasing_unique K F O L a [] h tt same)))
        (λ k. subst (λ d. IsHomogeneous K O d a) (sym (k.1.each (lead_monomial a) (lead_nonzero n))) k.1)
        z

    pub homogeneous_degree : (d : ℕ) → IsHomogeneous K O d a → degree_of O a ≡ d
    homogeneous_degree d k = k.each (lead_monomial a) (lead_nonzero (not_zero a k.some.0 k.some.1))

    -- small degrees are low
    pub low : (d : ℕ) → d ≤ bound_max → ((m : Exponents) → coefficient K a m ≢ K.zero → O.degree m ≡ d) → IsLow O a
    low d few each = decreasing_all K F O L (λ m. O.degree m ≤ degree_max) a h (λ m n. omega (arith, each m n))
