use Rattle.poly_core.specs.Presentation.{presented}
use Rattle.subduction.specs.NewElements.{IsLoweredTo}
use Rattle.subduction.proofs.new_elements.lowered.Given as goal

abbrev pub invariant-elements : goal.invariant-elements
invariant-elements g l = IsLoweredTo (presented g.F.Field.ops g.O.Order.order l.p) l.b l.fn.t l.i l.rest
