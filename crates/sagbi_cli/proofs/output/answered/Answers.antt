use Rattle.std.proofs.Common.{subst}
use Rattle.std.proofs.lemmas.Result.{err_from_is_err_and}
use Rattle.poly_core.specs.Presentation.{weight_order_of}
use Rattle.outputs.specs.Answers.{IsAnswerText}
use Rattle.sagbi_cli.proofs.output.answered.Goals as goal

pub returns-in_err-list-clause-stops : goal.returns-in_err-list-clause-stops
returns-in_err-list-clause-stops g c files known =
    let e = err_from_is_err_and c.from_residual.result c.from_residual.ensures.1 in
    rw (e.1, e.2) (c.in_err-list.ensures.refused files known)

pub answers-requires-clause-canonical : goal.answers-requires-clause-canonical
answers-requires-clause-canonical g c = rw c.as_slice.ensures.value c.in_ok-list.ensures.canonical

pub returns-clause-output : goal.returns-clause-output
returns-clause-output g c files known = record {
  queries = c.in_ok-list.list.items;
  given = c.in_ok-list.ensures.given files known;
  answers = subst (λ list. IsAnswerText g.F.Field.ops weight_order_of c.args.p c.args.bound list c.in_ok-answers.field-0.items)
      c.as_slice.ensures.value c.in_ok-answers.ensures;
}
