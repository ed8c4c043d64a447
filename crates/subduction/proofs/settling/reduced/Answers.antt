use Rattle.poly_core.specs.Presentation.{presented}
use Rattle.witness.specs.Tracking.{by_order}
use Rattle.subduction.proofs.Reducing.{less_next}
use Rattle.subduction.proofs.settling.reduced.Goals as goal

pub others-preserved : goal.others-preserved
others-preserved g c = record {
  canonical = c.in_ok-rest.ensures.canonical;
  less = less_next (presented g.F.Field.ops g.O.Order.order c.args.p.now) (by_order c.args.w.now) c.args.t.now c.args.others.now c.others.u-index c.u-item.result c.others.rest c.in_ok-rest.rest
      c.others-test.true c.u-item.is c.others.invariant.less c.in_ok-rest.ensures;
}
