use Rattle.std.proofs.Common.{◌≡◌, take}
use Rattle.std.specs.Prelude.{All}
use Rattle.poly_core.proofs.polynomial.Poly.is_homogeneous.Given as goal

abbrev pub invariant-loop-t : goal.invariant-loop-t
invariant-loop-t g l = All (λ t. (g.O.Order.order l.o).degree t.at ≡ l.degree) (take l.t-index l.t-items)
