use Rattle.std.proofs.Common.{◌≡◌, ◌≢◌, ℕ, ◌≤◌, ◌∙◌, IfOk}
use Rattle.std.proofs.lemmas.Result.{IfOk-weaker}
use Rattle.poly_core.specs.Presentation.{presented}
use Rattle.polynomials.specs.Polynomial.{degree_of, IsCanonical}
use Rattle.witness.specs.Tracking.{by_order, values_of}
use Rattle.subduction.specs.Subduced.{IsInReach}
use Rattle.completion.specs.Closed.{HasLater}
use Rattle.completion.specs.laws.Unchanged.{after, before, unchanged_twice}
use Rattle.membership.specs.Answer.{IsAnswer, IsCanonicalReply, IsWithin}
use Rattle.membership.specs.declared.reply.Reply.TheVariants.{Beyond}
use Rattle.membership.proofs.queries.answer.Goals as goal

pub answer_within-requires-clause-not_begun : goal.answer_within-requires-clause-not_begun
answer_within-requires-clause-not_begun g c = c.in_ok-d.ensures.unchanged.begun ∙ c.requires.not_begun

pub answer_within-requires-clause-canonical : goal.answer_within-requires-clause-canonical
answer_within-requires-clause-canonical g c =
    after c.args.c.now c.degree_beyond.new.c c.in_ok-d.ensures.unchanged
    (λ p n ts. IsCanonical (g.F.Field.ops p.field) (g.O.Order.order p.order) c.args.a.now) c.requires.canonical

pub answer_within-requires-clause-small : goal.answer_within-requires-clause-small
answer_within-requires-clause-small g c =
    after c.args.c.now c.degree_beyond.new.c c.in_ok-d.ensures.unchanged
    (λ p n ts. degree_of (g.O.Order.order p.order) c.args.a.now ≤ 30000) c.requires.small

pub answer_within-requires-clause-within : goal.answer_within-requires-clause-within
answer_within-requires-clause-within g c =
    after c.args.c.now c.degree_beyond.new.c c.in_ok-d.ensures.unchanged
    (λ p n ts. IsWithin (presented g.F.Field.ops g.O.Order.order p) n (values_of ts) c.args.a.now)
    (rw c.in-None.is at c.in_ok-d.ensures.within)

pub answer_within-requires-clause-reach : goal.answer_within-requires-clause-reach
answer_within-requires-clause-reach g c =
    after c.args.c.now c.degree_beyond.new.c c.in_ok-d.ensures.unchanged
    (λ p n ts. IsInReach (presented g.F.Field.ops g.O.Order.order p) c.degree_beyond.new.c.basis c.args.a.now)
    (rw c.in-None.is at c.in_ok-d.ensures.reach)

pub returns-in-None-clause-unchanged : goal.returns-in-None-clause-unchanged
returns-in-None-clause-unchanged g c =
    unchanged_twice c.args.c.now c.degree_beyond.new.c c.answer_within.new.c
    c.in_ok-d.ensures.unchanged c.answer_within.ensures.unchanged

pub returns-in-None-clause-answer : goal.returns-in-None-clause-answer
returns-in-None-clause-answer g c =
    before c.args.c.now c.degree_beyond.new.c c.in_ok-d.ensures.unchanged
    (λ p n ts. IfOk c.answer_within.result (IsAnswer (presented g.F.Field.ops g.O.Order.order p) n
    (values_of ts) c.args.a.now))
    c.answer_within.ensures.answer

pub returns-in-None-clause-later : goal.returns-in-None-clause-later
returns-in-None-clause-later g c =
    let P = presented g.F.Field.ops g.O.Order.order c.args.c.now.presentation in
    IfOk-weaker c.answer_within.result (λ r. (d : ℕ) → r ≢ Beyond d)
    (λ r. (d : ℕ) → r ≡ Beyond d → HasLater P c.args.c.now.degree (values_of c.args.c.now.basis.elements))
    (λ r k d e. absurd (k d e)) c.answer_within.ensures.not_beyond

pub returns-in-None-clause-canonical : goal.returns-in-None-clause-canonical
returns-in-None-clause-canonical g c =
    before c.args.c.now c.degree_beyond.new.c c.in_ok-d.ensures.unchanged
    (λ p n ts. IfOk c.answer_within.result (IsCanonicalReply (g.F.Field.ops p.field) (g.O.Order.order p.order)
    (by_order p.gen_order)))
    c.answer_within.ensures.canonical
