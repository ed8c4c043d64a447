use Rattle.std.proofs.Common.{◌≡◌, ℕ, ◌+◌, ◌<◌, [], length, get_or}
use Rattle.poly_core.specs.Presentation.{presented}
use Rattle.witness.specs.Expansion.{IsReplacement}
use Rattle.witness.specs.Tracking.{by_order, values_of}
use Rattle.witness.proofs.expansion.replacements.Given as goal

abbrev pub invariant-elements : goal.invariant-elements
invariant-elements g l = record {
  long : length l.at.items ≡ length l.p.generators.items + l.i;
  each : (j : ℕ) → j < length l.p.generators.items + l.i →
      IsReplacement (presented g.F.Field.ops g.O.Order.order l.p) (by_order l.w) (values_of l.s) l.w.s_degrees.items l.degree j (get_or l.at.items j []);
}
