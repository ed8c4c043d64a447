use Rattle.poly_core.specs.Presentation.{presented}
use Rattle.completion.proofs.RightSides.{comparable, count_is}
use Rattle.completion.proofs.right_sides.lower_right_side.Goals as goal

pub lower_count-count-requires : goal.lower_count-count-requires
lower_count-count-requires g c =
    let P = presented g.F.Field.ops g.O.Order.order c.args.p.now in
    rw c.leads.ensures.same (rw c.words.ensures
    (comparable P c.requires.presentation.presentation c.args.basis.now c.requires.basis))

pub returns-else-has_letter_after-clause-lower : goal.returns-else-has_letter_after-clause-lower
returns-else-has_letter_after-clause-lower g c lower last parts =
    let P = presented g.F.Field.ops g.O.Order.order c.args.p.now in
    let H = c.requires.presentation.presentation in
    let leads = rw c.words.ensures at c.leads.ensures.same in
    let degree = rw c.words-2.ensures at c.degree.ensures in
    let n = count_is P H c.args.basis.now c.requires.basis lower last parts c.lower_count-count.result c.degree.result
    c.leads.result.now leads degree c.lower_count-count.ensures in
    let all = rw (c.places.ensures, n) at c.has_letter_after.ensures in
    all c.if-has_letter_after.false
