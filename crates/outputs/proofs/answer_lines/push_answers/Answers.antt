use Rattle.std.proofs.Common.{◌≡◌, ◌<◌, ◌++◌, ◌+◌, ◌∷◌, [], ◌∙◌, length, sym, ap, append_assoc, take, take-suc, add-one, arith}
use Rattle.witness.specs.Tracking.{values_of}
use Rattle.completion.specs.Completion.{elements_of}
use Rattle.outputs.specs.Answers.{answer_line, IsAnswerTo}
use Rattle.outputs.proofs.Lines.{one_more}
use Rattle.completion.specs.laws.Unchanged.{before, unchanged_twice}
use Rattle.outputs.proofs.answer_lines.push_answers.Goals as goal

pub queries-preserved : goal.queries-preserved
queries-preserved g c =
    let s = c.args.c.now in
    let u = c.queries.invariant.unchanged in
    let i = c.queries.query-index in
    let queries = c.args.queries.now in
    let query = c.query-item.result in
    let line = c.in_ok-push_answer.ensures.line in
    let answer = before s c.queries.c u
    (λ p n ts. IsAnswerTo g.F.Field.ops g.O.Order.order p n (values_of ts) query line.0) line.1 in
    let text = before s c.queries.c u
    (λ p n ts. c.push_answer.new.text.items ≡ c.queries.text.items ++ answer_line (g.F.Field.ops p.field) p.names line.0) line.2 in
    let lines = c.queries.invariant.answers in
    let inside : i < length queries = omega arith in
    let more : take (i + 1) queries ≡ take i queries ++ query ∷ [] =
    ap (λ n. take n queries) (add-one i) ∙ (take-suc queries i query inside ∙ ap (λ x. take i queries ++ x ∷ []) (sym c.query-item.is)) in
    record {
      completion = c.push_answer.ensures.completion;
      unchanged = unchanged_twice s c.queries.c c.push_answer.new.c u c.push_answer.ensures.unchanged;
      answers = (
        lines.0 ++ answer_line (g.F.Field.ops s.presentation.field) s.presentation.names line.0,
        text ∙ (ap (λ x. x ++ answer_line (g.F.Field.ops s.presentation.field) s.presentation.names line.0) lines.1 ∙
            append_assoc c.args.text.now.items lines.0 (answer_line (g.F.Field.ops s.presentation.field) s.presentation.names line.0)),
        rw more (one_more g.F.Field.ops g.O.Order.order s.presentation s.degree (elements_of s) (take i queries) lines.0 lines.2 query line.0 answer),
      );
    }
