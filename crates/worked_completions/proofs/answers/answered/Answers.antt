use Rattle.std.proofs.Common.{◌≤◌, ◌∙◌, sym, subst}
use Rattle.word_field.specs.Residues.{residues}
use Rattle.poly_core.specs.Presentation.{weight_order_of}
use Rattle.polynomials.specs.Polynomial.{degree_of}
use Rattle.witness.specs.Tracking.{by_order}
use Rattle.membership.specs.Answer.{IsCanonicalReply}
use Rattle.worked_rows.specs.Rings.{IsIn, IsRing}
use Rattle.worked_completions.proofs.AtRest.{ring}
use Rattle.worked_completions.proofs.answers.answered.Goals as goal

pub query-requires : goal.query-requires
query-requires c = subst IsRing (sym c.presentation.ensures) (ring c.args.c.now c.requires)

pub answer-requires-clause-canonical : goal.answer-requires-clause-canonical
answer-requires-clause-canonical c = subst (λ p. IsIn p c.in_ok-a.a) c.presentation.ensures c.in_ok-a.ensures.canonical

pub answer-requires-clause-small : goal.answer-requires-clause-small
answer-requires-clause-small c =
    subst (λ p. degree_of (weight_order_of p.order) c.in_ok-a.a ≤ 30000) c.presentation.ensures c.in_ok-a.ensures.small

pub reply_text-requires-clause-valid : goal.reply_text-requires-clause-valid
reply_text-requires-clause-valid c =
    subst IsRing (sym c.presentation-2.ensures) c.in_ok-reply.ensures.completion.presentation

pub reply_text-requires-clause-canonical : goal.reply_text-requires-clause-canonical
reply_text-requires-clause-canonical c =
    subst
    (λ p. IsCanonicalReply (residues p.field.modulus) (weight_order_of p.order) (by_order p.gen_order)
    c.in_ok-reply.reply)
    (sym (c.presentation-2.ensures ∙ c.in_ok-reply.ensures.unchanged.presentation)) c.in_ok-reply.ensures.canonical
