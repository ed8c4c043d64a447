use Rattle.std.proofs.Common.{◌≤◌, ◌-◌, length}
use Rattle.poly_core.specs.Powers.{ArePowers}
use Rattle.poly_core.proofs.values.Powers.reach.Given as goal

abbrev pub invariant-powers : goal.invariant-powers
invariant-powers g l = record {
  powers : ArePowers (g.F.Field.ops l.f) (g.O.Order.order l.o) l.p l.self;
  longer : length l.initial.self ≤ length l.self;
}

abbrev pub decreases-powers : goal.decreases-powers
decreases-powers g l = l.e - length l.self
