use Rattle.poly_core.specs.Presentation.{presented}
use Rattle.witness.specs.Tracking.{values_of}
use Rattle.word_values.specs.Values.{IsSplit}
use Rattle.word_values.proofs.values.Values.split.Given as goal

abbrev pub invariant-letters : goal.invariant-letters
invariant-letters g l = IsSplit (presented g.F.Field.ops g.O.Order.order l.p) (values_of l.elements) l.w l.split
