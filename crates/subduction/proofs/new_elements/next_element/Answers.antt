use Rattle.poly_core.specs.Presentation.{presented}
use Rattle.witness.specs.Tracking.{by_order}
use Rattle.subduction.proofs.NextElement.{next_is, rest_nonzero}
use Rattle.subduction.proofs.new_elements.next_element.Goals as goal

pub made_monic-requires-clause-canonical : goal.made_monic-requires-clause-canonical
made_monic-requires-clause-canonical g c = (by_order c.args.b.now.by_order, c.in_ok-rest.ensures.canonical)

pub made_monic-requires-clause-nonzero : goal.made_monic-requires-clause-nonzero
made_monic-requires-clause-nonzero g c =
    rest_nonzero (presented g.F.Field.ops g.O.Order.order c.args.p.now) c.requires.presentation.presentation c.args.b.now c.requires.basis c.args.t c.requires.element c.in_ok-rest.rest c.in_ok-rest.ensures

pub returns : goal.returns
returns g c =
    next_is (presented g.F.Field.ops g.O.Order.order c.args.p.now) c.requires.presentation.presentation c.args.b.now c.requires.basis c.args.t c.requires.element c.in_ok-rest.rest c.in_ok-rest.ensures c.in_ok-monic.monic c.in_ok-monic.ensures
