use Rattle.std.proofs.Common.{subst}
use Rattle.std.specs.Prelude.{IfOk}
use Rattle.poly_core.specs.Presentation.{presented}
use Rattle.completion.specs.Report.{IsReport}
use Rattle.outputs.proofs.reporting.report.Goals as goal

pub returns : goal.returns
returns g c =
    subst (λ p. IfOk c.run_report-text.result (λ text. IsReport (presented g.F.Field.ops g.O.Order.order p) p.names c.args.bound text.items))
    c.in_ok-c.ensures.presentation c.run_report-text.ensures
