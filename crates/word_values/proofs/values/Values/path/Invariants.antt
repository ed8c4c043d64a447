use Rattle.std.specs.Prelude.{sum}
use Rattle.word_laws.specs.Words.{IsSWord}
use Rattle.subalgebra_laws.specs.Words.{letters}
use Rattle.poly_core.specs.Presentation.{presented}
use Rattle.witness.specs.Tracking.{values_of}
use Rattle.word_values.specs.Values.{IsPath}
use Rattle.word_values.proofs.values.Values.path.Given as goal

abbrev pub invariant-letters : goal.invariant-letters
invariant-letters g l =
    IsPath (presented g.F.Field.ops g.O.Order.order l.p) (values_of l.elements) l.w l.steps.items l.start ×
    IsSWord (letters (presented g.F.Field.ops g.O.Order.order l.p) (values_of l.elements)) l.start

abbrev pub decreases-letters : goal.decreases-letters
decreases-letters g l = sum l.start
