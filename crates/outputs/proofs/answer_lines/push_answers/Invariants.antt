use Rattle.std.proofs.Common.{◌≡◌, ◌++◌, ℕ, List, take}
use Rattle.completion.specs.Completion.{elements_of, IsCompletion, IsUnchanged}
use Rattle.outputs.specs.Answers.{AreAnswers}
use Rattle.outputs.proofs.answer_lines.push_answers.Given as goal

-- the queries so far are answered, and the completion is as before
abbrev pub invariant-queries : goal.invariant-queries
invariant-queries g l = record {
  completion : IsCompletion g.F.Field.ops g.O.Order.order l.c;
  unchanged : IsUnchanged l.initial.c l.c;
  answers : (lines : List ℕ) × (l.text.items ≡ l.initial.text.items ++ lines)
      × AreAnswers g.F.Field.ops g.O.Order.order l.initial.c.presentation l.initial.c.degree
      (elements_of l.initial.c) (take l.query-index l.queries) lines;
}
