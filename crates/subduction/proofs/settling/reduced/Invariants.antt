use Rattle.std.proofs.Common.{take}
use Rattle.poly_core.specs.Presentation.{presented}
use Rattle.witness.specs.Tracking.{by_order, IsCanonicalPair}
use Rattle.subduction.specs.Settling.{AreLess}
use Rattle.subduction.proofs.settling.reduced.Given as goal

abbrev pub invariant-others : goal.invariant-others
invariant-others g l = record {
  canonical : IsCanonicalPair (g.F.Field.ops l.p.field) (g.O.Order.order l.p.order) (by_order l.w) l.rest;
  less : AreLess (presented g.F.Field.ops g.O.Order.order l.p) (by_order l.w) l.t (take l.u-index l.others) l.rest;
}
