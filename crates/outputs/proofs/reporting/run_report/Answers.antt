use Rattle.outputs.proofs.Completed.{report_printed}
use Rattle.std.proofs.lemmas.Result.{IfOk-weaker}
use Rattle.outputs.proofs.reporting.run_report.Goals as goal

pub returns : goal.returns
returns g c =
    IfOk-weaker c.report.result _ _
    (λ text k. report_printed g.F.Field.ops g.O.Order.order c.args.c.now.presentation c.args.bound c.complete.new.c c.in_ok-complete.ensures text.items k)
    c.report.ensures.report
