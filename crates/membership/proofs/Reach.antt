-- Degrees of queries.
use Rattle.std.proofs.Common.{◌≡◌, ◌≢◌, ℕ, ◌≤◌, sym, ◌∙◌, ap, subst, [], arith}
use Rattle.polynomials.specs.Polynomial.{Polynomial, coefficient, degree_of, lead_monomial, IsCanonical, IsDegree}
use Rattle.polynomials.specs.Subalgebra.{Presented, IsPresentation}
use Rattle.polynomials.specs.laws.Coefficients.{decreasing_leads, nothing_at}
use Rattle.monomial_order.specs.laws.Comparing.{degree_one}
use Rattle.subduction.specs.laws.Degrees.{degrees_to}

-- the greatest degree of a monomial is that of the lead
pub degree_is : {E : Type 0} (P : Presented E) → IsPresentation P → (a : Polynomial E) → IsCanonical P.field P.order a →
    (d : ℕ) → IsDegree P.field P.order d a → degree_of P.order a ≡ d
degree_is P H a k d h =
    let high = degrees_to P H a k h.some.0 h.some.1 in
    let e = h.some.2 in
    let some : a ≢ [] = λ z. h.some.1 (ap (λ p. coefficient P.field p h.some.0) z ∙
    sym (nothing_at P.field h.some.0)) in
    let low = h.greatest (lead_monomial a)
    (decreasing_leads P.field H.field P.order H.order a k.decreasing some).nonzero in
    omega arith

-- zero has the degree 0
pub zero_low : {E : Type 0} (P : Presented E) → IsPresentation P → (a : Polynomial E) → a ≡ [] → (n : ℕ) →
    degree_of P.order a ≤ n
zero_low P H a z n =
    let o = degree_one P.order H.order in
    subst (λ p. degree_of P.order p ≤ n) (sym z) (let e : P.order.degree [] ≤ n = omega arith in e)
