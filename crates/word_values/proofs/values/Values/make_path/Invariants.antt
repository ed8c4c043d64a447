use Rattle.std.specs.Prelude.{length}
use Rattle.poly_core.specs.Presentation.{presented}
use Rattle.witness.specs.Tracking.{values_of}
use Rattle.word_values.proofs.Following.{IsReached}
use Rattle.word_values.proofs.values.Values.make_path.Given as goal

abbrev pub invariant-steps : goal.invariant-steps
invariant-steps g l = IsReached (presented g.F.Field.ops g.O.Order.order l.p) (values_of l.elements) l.w l.steps.items l.made l.initial.self l.self

abbrev pub decreases-steps : goal.decreases-steps
decreases-steps g l = length l.steps.items
