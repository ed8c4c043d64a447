use Rattle.poly_core.specs.Presentation.{presented}
use Rattle.witness.proofs.Witnesses.{tracks_multiple, graded_multiple}
use Rattle.witness.proofs.arithmetic.scale.Goals as goal

pub returns-clause-canonical : goal.returns-clause-canonical
returns-clause-canonical g c W h = record {
  value = c.in_ok-scale.ensures.canonical (g.O.Order.order c.args.p.now.order) h.value;
  by = c.in_ok-scale-2.ensures.canonical W h.by;
}

pub returns-clause-tracks : goal.returns-clause-tracks
returns-clause-tracks g c S h =
    tracks_multiple (presented g.F.Field.ops g.O.Order.order c.args.p.now) (g.met.F.Field.laws c.args.p.now.field) S c.args.c c.args.a.now.value c.args.a.now.by
    c.in_ok-scale.field-0 c.in_ok-scale-2.field-0 c.requires.factor c.in_ok-scale.ensures.multiple c.in_ok-scale-2.ensures.multiple h

pub returns-clause-graded : goal.returns-clause-graded
returns-clause-graded g c W d h =
    let K = g.F.Field.ops c.args.p.now.field in
    let F = g.met.F.Field.laws c.args.p.now.field in
    record {
      value = graded_multiple K F (g.O.Order.order c.args.p.now.order) d c.args.c c.args.a.now.value c.in_ok-scale.field-0 c.in_ok-scale.ensures.multiple h.value;
      by = graded_multiple K F W d c.args.c c.args.a.now.by c.in_ok-scale-2.field-0 c.in_ok-scale-2.ensures.multiple h.by;
    }
