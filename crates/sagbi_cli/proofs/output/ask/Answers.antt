use Rattle.std.proofs.Common.{subst, ◌∙◌}
use Rattle.std.proofs.lemmas.Result.{IfOk-weaker, err_from_is_err_and}
use Rattle.std.specs.FinMap as map
use Rattle.sagbi_cli.specs.Outcome.{after_queries}
use Rattle.sagbi_cli.specs.Output.{IsGiven, IsOutput}
use Rattle.sagbi_cli.specs.declared.command.Command.TheVariants.{Ask}
use Rattle.sagbi_cli.proofs.Asked.{pair_outcome, word_outcome}
use Rattle.sagbi_cli.proofs.output.ask.Goals as goal

pub returns-in_err-given-clause-stops : goal.returns-in_err-given-clause-stops
returns-in_err-given-clause-stops g c files known =
    let e = err_from_is_err_and c.from_residual.result c.from_residual.ensures.1 in
    rw (e.1, e.2) (c.in_err-given.ensures.refused files known (after_queries (map.get files c.args.asked.now)))

pub returns-in-Word-clause-output : goal.returns-in-Word-clause-output
returns-in-Word-clause-output g c files known =
    let given = subst (IsGiven files c.args.pres.now) c.in-Word.is (c.in_ok-given.ensures.given files known) in
    IfOk-weaker c.answered.result _ (λ text. IsOutput files (Ask c.args.pres c.args.bound c.args.asked) text.items)
    (λ text k. (_, given, k)) (c.answered.ensures.output files (c.presentation.ensures.map ∙ known))

pub returns-in-Word-clause-stops : goal.returns-in-Word-clause-stops
returns-in-Word-clause-stops g c files known =
    let given = subst (IsGiven files c.args.pres.now) c.in-Word.is (c.in_ok-given.ensures.given files known) in
    rw (word_outcome files c.args.pres.now c.args.asked.now c.in-Word.p given)
    (c.answered.ensures.stops files (c.presentation.ensures.map ∙ known))

pub returns-in-Pair-clause-output : goal.returns-in-Pair-clause-output
returns-in-Pair-clause-output g c files known =
    let given = subst (IsGiven files c.args.pres.now) c.in-Pair.is (c.in_ok-given.ensures.given files known) in
    IfOk-weaker c.answered-in-Pair.result _ (λ text. IsOutput files (Ask c.args.pres c.args.bound c.args.asked) text.items)
    (λ text k. (_, given, k)) (c.answered-in-Pair.ensures.output files (c.presentation.ensures.map ∙ known))

pub returns-in-Pair-clause-stops : goal.returns-in-Pair-clause-stops
returns-in-Pair-clause-stops g c files known =
    let given = subst (IsGiven files c.args.pres.now) c.in-Pair.is (c.in_ok-given.ensures.given files known) in
    rw (pair_outcome files c.args.pres.now c.args.asked.now c.in-Pair.p given)
    (c.answered-in-Pair.ensures.stops files (c.presentation.ensures.map ∙ known))
