use Rattle.std.proofs.Common.{◌+◌, subst}
use Rattle.std.specs.Prelude.{string_bytes}
use Rattle.outputs.specs.Summary.{IsSummary}
use Rattle.sagbi_cli.specs.TrialText.{IsTrialText}
use Rattle.std.proofs.lemmas.Result.{IfOk-weaker}
use Rattle.sagbi_cli.proofs.trial.trial.Goals as goal

pub returns : goal.returns
returns c =
    IfOk-weaker c.summary.result _ (λ s. IsTrialText c.args.number (string_bytes s))
    (λ s k. subst (λ P. IsSummary P c.args.number (c.args.number + 2) (string_bytes s)) c.in_ok-p.ensures.presents k)
    c.summary.ensures
