use Rattle.std.proofs.Common.{◌++◌, ◌∙◌, sym, ap, subst}
use Rattle.completion.specs.Completion.{elements_of}
use Rattle.outputs.specs.Answers.{AreAnswers}
use Rattle.outputs.proofs.answer_lines.answers_by.Goals as goal

pub returns : goal.returns
returns g c =
    let s = c.args.c.now in
    let lines = c.in_ok-push_answers.ensures in
    subst (AreAnswers g.F.Field.ops g.O.Order.order s.presentation s.degree (elements_of s) c.args.queries.now)
    (sym (lines.1 ∙ ap (λ x. x ++ lines.0) c.new-text.ensures.items)) lines.2
