use Rattle.std.proofs.Common.{take, []}
use Rattle.std.specs.Prelude.{All}
use Rattle.poly_core.specs.Presentation.{presented}
use Rattle.witness.specs.Tracking.{by_order, IsCanonicalPair}
use Rattle.subduction.specs.Settling.{AreMadeFrom}
use Rattle.subduction.proofs.settling.reduced_by_each_other.Given as goal

abbrev pub invariant-leads : goal.invariant-leads
invariant-leads g l = record {
  canonical : All (IsCanonicalPair (g.F.Field.ops l.p.field) (g.O.Order.order l.p.order) (by_order l.w)) l.new.items;
  made : AreMadeFrom (presented g.F.Field.ops g.O.Order.order l.p) (by_order l.w) l.elements [] (take l.m-index l.m-items) l.new.items;
}
