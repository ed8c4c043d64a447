use Rattle.std.proofs.Common.{sym, subst}
use Rattle.std.specs.Prelude.{IfOk}
use Rattle.sagbi_cli.specs.Output.{IsOutput}
use Rattle.sagbi_cli.proofs.output.output.Goals as goal

pub returns-in-Complete-clause-output : goal.returns-in-Complete-clause-output
returns-in-Complete-clause-output g c files known =
    subst (λ d. IfOk c.complete.result (λ text. IsOutput files d text.items)) (sym c.in-Complete.is) (c.complete.ensures.output files known)

pub returns-in-Ask-clause-output : goal.returns-in-Ask-clause-output
returns-in-Ask-clause-output g c files known =
    subst (λ d. IfOk c.ask.result (λ text. IsOutput files d text.items)) (sym c.in-Ask.is) (c.ask.ensures.output files known)

pub returns-in-Relations-clause-output : goal.returns-in-Relations-clause-output
returns-in-Relations-clause-output g c files known =
    subst (λ d. IfOk c.related.result (λ text. IsOutput files d text.items)) (sym c.in-Relations.is) (c.related.ensures.output files known)
