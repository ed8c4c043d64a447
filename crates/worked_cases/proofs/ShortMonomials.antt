-- The monomials of a decreasing list are as short as the order allows.
use Rattle.std.proofs.Common.{ℕ, ◌≤◌, [], ◌∷◌, length, arith}
use Rattle.word_field.specs.Field.{FieldOps}
use Rattle.monomial_order.specs.MonomialOrder.{MonomialOrder}
use Rattle.polynomials.specs.Polynomial.{Polynomial, AllAt, IsDecreasing}

pub short_monomials : {E : Type 0} (K : FieldOps E) (O : MonomialOrder) (n : ℕ) (p : Polynomial E) → IsDecreasing K O p → O.places ≤ n → AllAt (λ k. length k ≤ n) p
short_monomials K O n [] h l = tt
short_monomials K O n (t ∷ p) h l = (let w = h.0.term.monomial.within in omega arith, short_monomials K O n p h.1 l)
