-- The degrees of polynomials in texts.
use Rattle.std.specs.Prelude.{◌≤◌}
use Rattle.monomial_order.specs.Limits.{degree_max}
use Rattle.monomial_order.specs.MonomialOrder.{MonomialOrder}
use Rattle.polynomials.specs.Polynomial.{Polynomial, AllAt}

-- p is zero, or each of its monomials has a degree of at most degree_max
abbrev pub IsLow : {E : Type 0} → MonomialOrder → Polynomial E → Type 0
IsLow O p = AllAt (λ m. O.degree m ≤ degree_max) p
