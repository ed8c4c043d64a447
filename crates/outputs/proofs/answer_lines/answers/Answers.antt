use Rattle.std.proofs.Common.{subst, sym}
use Rattle.std.specs.Prelude.{All, IfOk}
use Rattle.polynomials.specs.Polynomial.{IsCanonical}
use Rattle.polynomial_text.specs.Degrees.{IsLow}
use Rattle.outputs.specs.Answers.{IsAnswerText}
use Rattle.outputs.proofs.answer_lines.answers.Goals as goal

pub run_answers-text-requires-clause-canonical : goal.run_answers-text-requires-clause-canonical
run_answers-text-requires-clause-canonical g c =
    subst (λ p. All (IsCanonical (g.F.Field.ops p.field) (g.O.Order.order p.order)) c.args.queries.now)
    (sym c.in_ok-c.ensures.presentation) c.requires.canonical

pub run_answers-text-requires-clause-low : goal.run_answers-text-requires-clause-low
run_answers-text-requires-clause-low g c =
    subst (λ p. All (IsLow (g.O.Order.order p.order)) c.args.queries.now) (sym c.in_ok-c.ensures.presentation) c.requires.low

pub returns : goal.returns
returns g c =
    subst (λ p. IfOk c.run_answers-text.result (λ text. IsAnswerText g.F.Field.ops g.O.Order.order p c.args.bound c.args.queries.now text.items))
    c.in_ok-c.ensures.presentation c.run_answers-text.ensures
