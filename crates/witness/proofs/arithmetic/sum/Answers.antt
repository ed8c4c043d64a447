use Rattle.poly_core.specs.Presentation.{presented}
use Rattle.witness.proofs.Witnesses.{tracks_sum, graded_sum}
use Rattle.witness.specs.Tracking.{by_order}
use Rattle.witness.proofs.arithmetic.sum.Goals as goal

pub returns-clause-tracks : goal.returns-clause-tracks
returns-clause-tracks g c S ha hb =
    let F = g.met.F.Field.laws c.args.p.now.field in
    tracks_sum (presented g.F.Field.ops g.O.Order.order c.args.p.now) F S c.args.a.now.value c.args.a.now.by c.args.b.now.value c.args.b.now.by
    c.in_ok-add.field-0 c.in_ok-add-2.field-0 c.in_ok-add.ensures.sum c.in_ok-add-2.ensures.sum ha hb

pub returns-clause-graded : goal.returns-clause-graded
returns-clause-graded g c d ha hb =
    let K = g.F.Field.ops c.args.p.now.field in
    let F = g.met.F.Field.laws c.args.p.now.field in
    record {
      value = graded_sum K F (g.O.Order.order c.args.p.now.order) d c.args.a.now.value c.args.b.now.value c.in_ok-add.field-0 c.in_ok-add.ensures.sum ha.value hb.value;
      by = graded_sum K F (by_order c.args.w.now) d c.args.a.now.by c.args.b.now.by c.in_ok-add-2.field-0 c.in_ok-add-2.ensures.sum ha.by hb.by;
    }
