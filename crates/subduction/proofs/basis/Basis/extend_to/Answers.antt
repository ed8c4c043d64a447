use Rattle.std.proofs.Common.{◌≡◌, ◌<◌, ◌≤◌, max, sym, ◌∙◌, ap, subst, arith}
use Rattle.poly_core.specs.Presentation.{presented}
use Rattle.subduction.specs.Basis.{IsBasisOf}
use Rattle.subduction.proofs.IdealLeads.{lead_monomials, lead_small}
use Rattle.subduction.proofs.Growing.{with_quotient, with_words, zeros_agree, zeros_are}
use Rattle.subduction.proofs.basis.Basis.extend_to.Goals as goal

pub monomials_to-requires-clause-monomials : goal.monomials_to-requires-clause-monomials
monomials_to-requires-clause-monomials g c =
    let P = presented g.F.Field.ops g.O.Order.order c.args.p.now in
    rw c.leads.ensures.value (lead_monomials P c.requires.presentation.presentation c.extend_to.new.self c.extend_to.ensures.quotient)

pub monomials_to-requires-clause-small : goal.monomials_to-requires-clause-small
monomials_to-requires-clause-small g c =
    let P = presented g.F.Field.ops g.O.Order.order c.args.p.now in
    rw c.leads.ensures.value (lead_small P c.requires.presentation.presentation c.extend_to.new.self c.extend_to.ensures.quotient)

pub returns-in_err-zeros-clause-basis : goal.returns-in_err-zeros-clause-basis
returns-in_err-zeros-clause-basis g c =
    let P = presented g.F.Field.ops g.O.Order.order c.args.p.now in
    with_quotient P c.requires.presentation.presentation _ (subst (IsBasisOf P) (sym c.self.view_is) c.requires.basis) c.extend_to.new.self c.extend_to.ensures.quotient
    (let e = c.in_ok-extend_to.ensures.degree in omega arith)

pub extend_to-requires-2-clause-zero : goal.extend_to-requires-2-clause-zero
extend_to-requires-2-clause-zero g c =
    let P = presented g.F.Field.ops g.O.Order.order c.args.p.now in
    rw (c.as_slice.ensures.value, c.in_ok-zeros.ensures, c.leads.ensures.value)
    (zeros_are P c.requires.presentation.presentation _ (subst (IsBasisOf P) (sym c.self.view_is) c.requires.basis) c.extend_to.new.self c.extend_to.ensures.quotient
    (let e = c.in_ok-extend_to.ensures.degree in omega arith) c.args.c)

pub extend_to-requires-2-clause-agree : goal.extend_to-requires-2-clause-agree
extend_to-requires-2-clause-agree g c =
    let P = presented g.F.Field.ops g.O.Order.order c.args.p.now in
    rw (c.as_slice.ensures.value, c.in_ok-zeros.ensures, c.leads.ensures.value)
    (zeros_agree P c.requires.presentation.presentation _ (subst (IsBasisOf P) (sym c.self.view_is) c.requires.basis) c.extend_to.new.self c.extend_to.ensures.quotient
    (let e = c.in_ok-extend_to.ensures.degree in omega arith) c.args.c)

pub returns-in_err-extend_to-2-clause-basis : goal.returns-in_err-extend_to-2-clause-basis
returns-in_err-extend_to-2-clause-basis g c =
    let P = presented g.F.Field.ops g.O.Order.order c.args.p.now in
    rw c.in_err-extend_to-2.ensures.err
    (with_quotient P c.requires.presentation.presentation _ (subst (IsBasisOf P) (sym c.self.view_is) c.requires.basis) c.extend_to.new.self c.extend_to.ensures.quotient
    (let e = c.in_ok-extend_to.ensures.degree in omega arith))

pub returns-clause-basis : goal.returns-clause-basis
returns-clause-basis g c =
    let P = presented g.F.Field.ops g.O.Order.order c.args.p.now in
    let less : c.self.inside.words.degree < c.args.c = (let e = c.degree.ensures in let n = c.if-c-degree.false in omega arith) in
    with_words P c.requires.presentation.presentation _ (subst (IsBasisOf P) (sym c.self.view_is) c.requires.basis) c.extend_to.new.self c.extend_to.ensures.quotient
    (let e = c.in_ok-extend_to.ensures.degree in omega arith) c.args.c c.extend_to-2.new.self c.words_are_listed.ensures
    c.extend_to-2.ensures.letters (let e = c.in_ok-extend_to-2.ensures.degree in omega arith)
    (rw (c.in_ok-extend_to-2.ensures.new_zeros less, c.as_slice.ensures.value, c.in_ok-zeros.ensures, c.leads.ensures.value) Rattle.std.proofs.Common.refl)
    less (let e = c.in_ok-extend_to.ensures.degree in omega arith)
