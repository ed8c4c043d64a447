use Rattle.std.proofs.Common.{sym, subst}
use Rattle.std.proofs.lemmas.Result.{err_from_is_err_and}
use Rattle.sagbi_cli.specs.Output.{IsAnyOutputOn}
use Rattle.sagbi_cli.specs.declared.command.Command.TheVariants.{Relations}
use Rattle.sagbi_cli.specs.declared.outcome.Outcome.TheVariants.{Done}
use Rattle.sagbi_cli.proofs.output.related.Goals as goal

pub returns-in_err-p-clause-stops : goal.returns-in_err-p-clause-stops
returns-in_err-p-clause-stops g c files known =
    let e = err_from_is_err_and c.from_residual.result c.from_residual.ensures.1 in
    rw (e.1, e.2) (c.in_err-p.ensures.refused files known (λ _. Done))

pub returns-in_ok-relations-in-Word-clause-output : goal.returns-in_ok-relations-in-Word-clause-output
returns-in_ok-relations-in-Word-clause-output g c files known = (
  c.in_ok-p.field-0,
  c.in_ok-p.ensures.given files known,
  subst (λ p. IsAnyOutputOn files p (Relations c.args.pres c.args.bound) c.in_ok-relations-in-Word.field-0.items) (sym c.in-Word.is)
      c.in_ok-relations-in-Word.ensures,
)

pub returns-in_ok-relations-in-Pair-clause-output : goal.returns-in_ok-relations-in-Pair-clause-output
returns-in_ok-relations-in-Pair-clause-output g c files known = (
  c.in_ok-p.field-0,
  c.in_ok-p.ensures.given files known,
  subst (λ p. IsAnyOutputOn files p (Relations c.args.pres c.args.bound) c.in_ok-relations-in-Pair.field-0.items) (sym c.in-Pair.is)
      c.in_ok-relations-in-Pair.ensures,
)
