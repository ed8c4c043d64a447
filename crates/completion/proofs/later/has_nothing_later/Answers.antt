use Rattle.poly_core.specs.Presentation.{presented}
use Rattle.subduction.specs.laws.Decisions.{zeros_represent}
use Rattle.completion.proofs.ClosedBases.{closed_after, later}
use Rattle.completion.proofs.later.has_nothing_later.Goals as goal

pub returns-clause-yes : goal.returns-clause-yes
returns-clause-yes g c t =
    let P = presented g.F.Field.ops g.O.Order.order c.args.p.now in
    closed_after P c.requires.presentation.presentation c.args.basis.now c.closed.new.self c.requires.basis
    c.closed.ensures.basis
    c.decisions.ensures.zero_words c.closed.ensures.elements c.closed.ensures.quotient c.closed.ensures.words c.args.c
    c.requires.degree
    (c.has_later.ensures.no c.if-has_later.false) (c.in_ok-closed.ensures.yes t)

pub returns-clause-no : goal.returns-clause-no
returns-clause-no g c t =
    let P = presented g.F.Field.ops g.O.Order.order c.args.p.now in
    let H = c.requires.presentation.presentation in
    later P H c.args.basis.now c.requires.basis c.args.c
    (zeros_represent P H c.args.basis.now c.requires.basis c.decisions.ensures.zero_words)
    c.requires.degree (c.in_ok-closed.ensures.no t)
