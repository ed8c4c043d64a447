-- Queries of a low degree.
use Rattle.std.proofs.Common.{◌≤◌, [], ◌∷◌, arith}
use Rattle.monomial_order.specs.MonomialOrder.{MonomialOrder, IsMonomialOrder}
use Rattle.monomial_order.specs.laws.Comparing.{degree_one}
use Rattle.polynomials.specs.Polynomial.{Polynomial, degree_of}
use Rattle.polynomial_text.specs.Degrees.{IsLow}

pub low_degree : {E : Type 0} (O : MonomialOrder) → IsMonomialOrder O → (a : Polynomial E) → IsLow O a → degree_of O a ≤ 30000
low_degree O L [] h = let e = degree_one O L in omega arith
low_degree O L (t ∷ a) h = h.0
