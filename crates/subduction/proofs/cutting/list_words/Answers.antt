use Rattle.std.proofs.Common.{◌≡◌, ◌<◌, ◌≤◌, max, sym, ◌∙◌, ap, subst, arith}
use Rattle.poly_core.specs.Presentation.{presented}
use Rattle.subduction.proofs.IdealLeads.{lead_monomials, lead_small}
use Rattle.subduction.proofs.Growing.{with_words, zeros_agree, zeros_are}
use Rattle.subduction.proofs.cutting.list_words.Goals as goal

pub monomials_to-requires-clause-monomials : goal.monomials_to-requires-clause-monomials
monomials_to-requires-clause-monomials g c =
    let P = presented g.F.Field.ops g.O.Order.order c.args.p.now in
    rw c.leads.ensures.value (lead_monomials P c.requires.presentation.presentation c.args.q.now c.requires.front.2.quotient)

pub monomials_to-requires-clause-small : goal.monomials_to-requires-clause-small
monomials_to-requires-clause-small g c =
    let P = presented g.F.Field.ops g.O.Order.order c.args.p.now in
    rw c.leads.ensures.value (lead_small P c.requires.presentation.presentation c.args.q.now c.requires.front.2.quotient)

pub extend_to-requires-clause-zero : goal.extend_to-requires-clause-zero
extend_to-requires-clause-zero g c =
    let P = presented g.F.Field.ops g.O.Order.order c.args.p.now in
    rw (c.as_slice.ensures.value, c.in_ok-zeros.ensures, c.leads.ensures.value)
    (zeros_are P c.requires.presentation.presentation _ c.requires.front.2 c.args.q.now c.requires.front.2.quotient (omega arith) c.args.c)

pub extend_to-requires-clause-agree : goal.extend_to-requires-clause-agree
extend_to-requires-clause-agree g c =
    let P = presented g.F.Field.ops g.O.Order.order c.args.p.now in
    rw (c.as_slice.ensures.value, c.in_ok-zeros.ensures, c.leads.ensures.value)
    (zeros_agree P c.requires.presentation.presentation _ c.requires.front.2 c.args.q.now c.requires.front.2.quotient (omega arith) c.args.c)

pub returns-clause-front : goal.returns-clause-front
returns-clause-front g c w ts B =
    let P = presented g.F.Field.ops g.O.Order.order c.args.p.now in
    let less : c.args.words.now.degree < c.args.c = (let e = c.degree.ensures in let n = c.if-c-degree.false in omega arith) in
    with_words P c.requires.presentation.presentation _ B c.args.q.now B.quotient (omega arith) c.args.c c.extend_to.new.self c.words_are_listed.ensures
    c.extend_to.ensures.letters (let e = c.in_ok-extend_to.ensures.degree in omega arith)
    (rw (c.in_ok-extend_to.ensures.new_zeros less, c.as_slice.ensures.value, c.in_ok-zeros.ensures, c.leads.ensures.value) Rattle.std.proofs.Common.refl)
    less (omega arith)
