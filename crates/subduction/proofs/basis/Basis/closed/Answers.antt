use Rattle.std.proofs.Common.{◌⊎◌, inl, inr, sym, ◌∙◌, ap, subst, arith}
use Rattle.poly_core.specs.Presentation.{presented}
use Rattle.quotient_gb.specs.Quotient.{with_closed, QuotientState, HasGeneratorAbove, HasOtherLead}
use Rattle.toric_ideal.specs.Listing.{Listing}
use Rattle.subduction.specs.Basis.{BasisState, HasOtherWord, IsBasisOf}
use Rattle.subduction.proofs.IdealLeads.{lead_monomials, lead_small}
use Rattle.subduction.proofs.Growing.{open_quotient, other_words, with_quotient, zeros_back}
use Rattle.subduction.proofs.basis.Basis.closed.Goals as goal

pub monomials_to-requires-clause-monomials : goal.monomials_to-requires-clause-monomials
monomials_to-requires-clause-monomials g c =
    let P = presented g.F.Field.ops g.O.Order.order c.args.p.now in
    rw c.leads.ensures.value (lead_monomials P c.requires.presentation.presentation c.closed.new.self c.closed.ensures.quotient)

pub monomials_to-requires-clause-small : goal.monomials_to-requires-clause-small
monomials_to-requires-clause-small g c =
    let P = presented g.F.Field.ops g.O.Order.order c.args.p.now in
    rw c.leads.ensures.value (lead_small P c.requires.presentation.presentation c.closed.new.self c.closed.ensures.quotient)

pub returns-then-not-branch-clause-basis : goal.returns-then-not-branch-clause-basis
returns-then-not-branch-clause-basis g c =
    let P = presented g.F.Field.ops g.O.Order.order c.args.p.now in
    with_quotient P c.requires.presentation.presentation _ (subst (IsBasisOf P) (sym c.self.view_is) c.requires.basis) c.closed.new.self c.closed.ensures.quotient
    (let e = ap (λ (q : QuotientState g.row.F-Elem.Denot). q.degree) c.in_ok-closed.ensures.state in omega arith)

pub returns-then-not-branch-clause-no : goal.returns-then-not-branch-clause-no
returns-then-not-branch-clause-no g c e =
    let P = presented g.F.Field.ops g.O.Order.order c.args.p.now in
    inl (subst (λ (b : BasisState g.row.F.Denot g.row.F-Elem.Denot). HasGeneratorAbove P b.quotient.degree ⊎ HasOtherLead P b.quotient.leads) c.self.view_is (c.in_ok-closed.ensures.no c.if-not-branch.true))

pub returns-then-not-branch-clause-quotient : goal.returns-then-not-branch-clause-quotient
returns-then-not-branch-clause-quotient g c =
    let P = presented g.F.Field.ops g.O.Order.order c.args.p.now in
    inl (c.in_ok-closed.ensures.state ∙ (ap (λ r. with_closed r c.self.inside.quotient) c.if-not-branch.true ∙
    (open_quotient P c.self.inside.quotient (subst (IsBasisOf P) (sym c.self.view_is) c.requires.basis).quotient (c.in_ok-closed.ensures.no c.if-not-branch.true) ∙
    ap (λ (b : BasisState g.row.F.Denot g.row.F-Elem.Denot). b.quotient) c.self.view_is)))

pub returns-in_err-zeros-clause-basis : goal.returns-in_err-zeros-clause-basis
returns-in_err-zeros-clause-basis g c =
    let P = presented g.F.Field.ops g.O.Order.order c.args.p.now in
    with_quotient P c.requires.presentation.presentation _ (subst (IsBasisOf P) (sym c.self.view_is) c.requires.basis) c.closed.new.self c.closed.ensures.quotient
    (let e = ap (λ (q : QuotientState g.row.F-Elem.Denot). q.degree) c.in_ok-closed.ensures.state in omega arith)

pub closed-requires-2-clause-zero : goal.closed-requires-2-clause-zero
closed-requires-2-clause-zero g c =
    let P = presented g.F.Field.ops g.O.Order.order c.args.p.now in
    rw (c.as_slice.ensures.value, c.in_ok-zeros.ensures, c.leads.ensures.value, c.degree-degree.ensures)
    (zeros_back P c.requires.presentation.presentation _ (subst (IsBasisOf P) (sym c.self.view_is) c.requires.basis) c.closed.new.self c.closed.ensures.quotient
    (ap (λ (q : QuotientState g.row.F-Elem.Denot). q.leads) c.in_ok-closed.ensures.state))

pub returns-in_err-closed-2-clause-basis : goal.returns-in_err-closed-2-clause-basis
returns-in_err-closed-2-clause-basis g c =
    let P = presented g.F.Field.ops g.O.Order.order c.args.p.now in
    rw c.in_err-closed-2.ensures.memory
    (with_quotient P c.requires.presentation.presentation _ (subst (IsBasisOf P) (sym c.self.view_is) c.requires.basis) c.closed.new.self c.closed.ensures.quotient
    (let e = ap (λ (q : QuotientState g.row.F-Elem.Denot). q.degree) c.in_ok-closed.ensures.state in omega arith))

pub returns-clause-basis : goal.returns-clause-basis
returns-clause-basis g c =
    let P = presented g.F.Field.ops g.O.Order.order c.args.p.now in
    other_words P c.requires.presentation.presentation _
    (with_quotient P c.requires.presentation.presentation _ (subst (IsBasisOf P) (sym c.self.view_is) c.requires.basis) c.closed.new.self c.closed.ensures.quotient
    (let e = ap (λ (q : QuotientState g.row.F-Elem.Denot). q.degree) c.in_ok-closed.ensures.state in omega arith))
    c.closed-2.new.self c.words_are_listed.ensures
    (ap (λ (W : Listing). W.letters) c.in_ok-closed-2.ensures.state)
    (ap (λ (W : Listing). W.zeros) c.in_ok-closed-2.ensures.state)
    (ap (λ (W : Listing). W.degree) c.in_ok-closed-2.ensures.state)

pub returns-clause-no : goal.returns-clause-no
returns-clause-no g c e =
    let w = c.in_ok-closed-2.ensures.no e in
    inr (subst (λ (b : BasisState g.row.F.Denot g.row.F-Elem.Denot). HasOtherWord b.words) c.self.view_is (record { word = w.0; is_word = w.1; reducible = w.2; no_rule = w.3 }))
