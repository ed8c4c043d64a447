use Rattle.std.proofs.Common.{subst}
use Rattle.std.specs.Prelude.{string_bytes, IfOk}
use Rattle.poly_core.specs.Presentation.{presented}
use Rattle.outputs.specs.Summary.{IsSummary}
use Rattle.outputs.proofs.summaries.summary.Goals as goal

pub returns : goal.returns
returns g c =
    subst (λ p. IfOk c.run_summary-text.result (λ s. IsSummary (presented g.F.Field.ops g.O.Order.order p) c.args.number c.args.bound (string_bytes s)))
    c.in_ok-c.ensures.presentation c.run_summary-text.ensures
