use Rattle.poly_core.specs.Presentation.{presented}
use Rattle.witness.specs.Tracking.{values_of}
use Rattle.completion.proofs.RightSides.{kept_right}
use Rattle.completion.proofs.insertion.insert_found.Goals as goal

pub returns-clause-right : goal.returns-clause-right
returns-clause-right g c lower last parts word _ =
    let P = presented g.F.Field.ops g.O.Order.order c.args.p.now in
    let S = values_of lower in
    let T = values_of last in
    kept_right P c.requires.presentation.presentation c.args.basis.now c.requires.basis lower last parts
    (c.growing.ensures.values P S T) (c.growing.ensures.old_sums P S T)
    c.args.found.now.word word c.insert_word.new.basis c.lower_right_side.result c.in_ok-right.right
    c.lower_right_side.ensures.same c.lower_right_side.ensures.lower c.in_ok-right.ensures.right
