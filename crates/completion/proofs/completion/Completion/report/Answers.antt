use Rattle.std.proofs.Common.{◌≡◌, sym, subst}
use Rattle.std.proofs.lemmas.Result.{IfOk-weaker}
use Rattle.poly_core.specs.Presentation.{presented}
use Rattle.subduction.specs.laws.Elements.{homogeneous_elements}
use Rattle.witness.specs.Tracking.{values_of}
use Rattle.completion.specs.Completion.{CompletionState, IsCompletion, IsUnchanged}
use Rattle.completion.specs.Report.{mark_text, report_text, IsReport}
use Rattle.completion.proofs.Reported.{reported}
use Rattle.completion.proofs.completion.Completion.report.Goals as goal

pub report_on-requires-clause-elements : goal.report_on-requires-clause-elements
report_on-requires-clause-elements g c =
    let P = presented g.F.Field.ops g.O.Order.order c.self.inside.presentation in
    let K = subst (IsCompletion g.F.Field.ops g.O.Order.order) (sym c.self.view_is) c.is_complete.ensures.completion in
    rw c.elements-elements.ensures (homogeneous_elements P K.presentation.presentation c.self.inside.basis
    K.standing.basis)

pub returns-clause-report : goal.returns-clause-report
returns-clause-report g c =
    let s = c.args.self.now in
    let P = presented g.F.Field.ops g.O.Order.order c.self.inside.presentation in
    let names = c.self.inside.presentation.names in
    let mark = mark_text c.in_ok-complete.complete in
    let U = subst (λ (t : CompletionState g.row.F.Denot g.row.O.Denot g.row.F-Elem.Denot). IsUnchanged s t)
    (sym c.self.view_is) c.is_complete.ensures.unchanged in
    IfOk-weaker c.report_on.result
    (λ v. v.items ≡ report_text P names c.self.inside.degree (values_of c.self.inside.basis.elements) mark)
    (λ v. IsReport (presented g.F.Field.ops g.O.Order.order s.presentation) s.presentation.names s.degree v.items)
    (λ v h. reported g.F.Field.ops g.O.Order.order s _ U c.requires.completion c.requires.not_begun
    c.in_ok-complete.complete
    c.in_ok-complete.ensures.yes c.in_ok-complete.ensures.no v.items h)
    (rw c.elements-elements.ensures at c.report_on.ensures)
