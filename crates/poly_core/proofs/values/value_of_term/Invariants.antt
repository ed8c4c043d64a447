use Rattle.std.proofs.Common.{◌≤◌, length, drop}
use Rattle.poly_core.proofs.Evaluating.{IsPartial}
use Rattle.poly_core.proofs.values.value_of_term.Given as goal

abbrev pub invariant-places : goal.invariant-places
invariant-places g l = record {
  within : l.place ≤ length l.t.at;
  partial : IsPartial (g.F.Field.ops l.f) (g.O.Order.order l.o) l.t.by (drop l.place l.t.at) (drop l.place l.at) l.product.items;
}

abbrev pub decreases-places : goal.decreases-places
decreases-places g l = l.place
