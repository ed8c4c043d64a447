use Rattle.std.proofs.Common.{◌≤◌, ◌+◌, length, take}
use Rattle.std.specs.Prelude.{All}
use Rattle.monomial_order.specs.Monomial.{exponent}
use Rattle.poly_core.specs.Powers.{ArePowers}
use Rattle.poly_core.proofs.values.powers_at.Given as goal

abbrev pub invariant-loop-t : goal.invariant-loop-t
invariant-loop-t g l = record {
  powers : ArePowers (g.F.Field.ops l.f) (g.O.Order.order l.o) l.p l.powers;
  reached : All (λ t. exponent t.at l.place ≤ length l.powers + 1) (take l.t-index l.h);
}
