use Rattle.std.proofs.Common.{◌≡◌, ◌∙◌, ◌++◌, subst}
use Rattle.poly_core.specs.declared.presentations.Presentation.{Presentation}
use Rattle.outputs.specs.Answers.{answer_line}
use Rattle.std.proofs.lemmas.Result.{on_ok_weaker}
use Rattle.outputs.proofs.Queries.{low_degree}
use Rattle.outputs.proofs.answer_lines.push_answer.Goals as goal

pub answer-requires-clause-small : goal.answer-requires-clause-small
answer-requires-clause-small g c =
    low_degree (g.O.Order.order c.args.c.now.presentation.order) c.requires.completion.presentation.presentation.order
    c.args.query.now c.requires.low

pub push_line-requires-clause-canonical : goal.push_line-requires-clause-canonical
push_line-requires-clause-canonical g c =
    rw (c.presentation.ensures ∙ c.in_ok-reply.ensures.unchanged.presentation) c.in_ok-reply.ensures.canonical

pub returns-clause-line : goal.returns-clause-line
returns-clause-line g c =
    let reply = c.in_ok-reply.reply in
    let same = c.presentation.ensures ∙ c.in_ok-reply.ensures.unchanged.presentation in
    on_ok_weaker c.push_line.result
    (λ e. (
      reply,
      record { answer = c.in_ok-reply.ensures.answer; canonical = c.in_ok-reply.ensures.canonical },
      subst (λ (p : Presentation g.row.F.Denot g.row.O.Denot g.row.F-Elem.Denot).
          c.push_line.new.text.items ≡ c.args.text.now.items ++ answer_line (g.F.Field.ops p.field) p.names reply) same e,
    ))
    c.push_line.ensures
