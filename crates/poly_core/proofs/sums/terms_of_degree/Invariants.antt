use Rattle.std.proofs.Common.{◌≡◌, take}
use Rattle.polynomials.specs.Polynomial.{component}
use Rattle.poly_core.proofs.sums.terms_of_degree.Given as goal

abbrev pub invariant-loop-t : goal.invariant-loop-t
invariant-loop-t g l = l.copies.items ≡ component (g.O.Order.order l.o) l.d (take l.t-index l.terms)
