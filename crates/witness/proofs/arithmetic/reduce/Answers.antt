use Rattle.poly_core.specs.Presentation.{presented}
use Rattle.witness.proofs.Witnesses.{tracks_reduced}
use Rattle.witness.proofs.arithmetic.reduce.Goals as goal

pub returns-clause-tracks : goal.returns-clause-tracks
returns-clause-tracks g c S h =
    tracks_reduced (presented g.F.Field.ops g.O.Order.order c.args._p.now) (g.met.F.Field.laws c.args._p.now.field) S c.args.a.value c.args.a.by c.args.normal_form c.requires h
