use Rattle.std.proofs.Common.{◌≡◌, sym, ◌∙◌, true, false}
use Rattle.poly_core.specs.Presentation.{presented}
use Rattle.membership.proofs.Answering.{has_remainder, has_witness, small_words}
use Rattle.membership.proofs.queries.answer_within.Goals as goal

impossible : true ≡ false → ⊥
impossible e = cc

pub returns-then-is_some-clause-answer : goal.returns-then-is_some-clause-answer
returns-then-is_some-clause-answer g c =
    let P = presented g.F.Field.ops g.O.Order.order c.args.c.now.presentation in
    let H = c.requires.completion.presentation.presentation in
    let B = c.requires.completion.standing.basis in
    let D = c.requires.completion.standing.at_degree c.requires.not_begun in
    let b = c.args.c.now.basis in
    has_remainder P H b B c.args.c.now.degree c.args.a.now c.requires.canonical _
    c.in_ok-left.left c.in_ok-left.ensures.subduced c.in_ok-copy.ensures
    (c.rests_are_remainders.ensures.remainder P b c.args.c.now.degree H B D.reduced D.words.0)
    c.rests_are_remainders.ensures.member c.requires.within
    (λ z. impossible (sym c.if-is_some.true ∙ (c.is_some.ensures ∙ c.lead.ensures.zero.1 z)))

pub expanded-requires-clause-canonical : goal.expanded-requires-clause-canonical
expanded-requires-clause-canonical g c =
    rw (
      c.presentation.ensures ∙ c.in_ok-left.ensures.unchanged.presentation,
      c.lower.ensures.value ∙
          c.in_ok-left.ensures.basis,
    ) c.in_ok-left.ensures.subduced.canonical.by

pub expanded-requires-clause-small : goal.expanded-requires-clause-small
expanded-requires-clause-small g c =
    let P = presented g.F.Field.ops g.O.Order.order c.args.c.now.presentation in
    let H = c.requires.completion.presentation.presentation in
    let B = c.requires.completion.standing.basis in
    rw (
      c.presentation.ensures ∙ c.in_ok-left.ensures.unchanged.presentation,
      c.lower.ensures.value ∙
          c.in_ok-left.ensures.basis,
    )
    (small_words P H c.args.c.now.basis B c.args.c.now.degree c.args.a.now c.requires.canonical _
    c.in_ok-left.left c.in_ok-left.ensures.subduced c.in_ok-copy.ensures c.zero.ensures c.requires.small)

pub returns-clause-answer : goal.returns-clause-answer
returns-clause-answer g c =
    let P = presented g.F.Field.ops g.O.Order.order c.args.c.now.presentation in
    let H = c.requires.completion.presentation.presentation in
    let B = c.requires.completion.standing.basis in
    has_witness P H c.args.c.now.basis B c.args.c.now.degree c.args.a.now c.requires.canonical _
    c.in_ok-left.left c.in_ok-left.ensures.subduced
    c.in_ok-copy.ensures c.zero.ensures
    c.requires.within (c.lead.ensures.zero.0 (sym c.is_some.ensures ∙ c.if-is_some.false)) c.in_ok-h.h
    (rw (c.presentation.ensures ∙ c.in_ok-left.ensures.unchanged.presentation) at c.in_ok-h.ensures.poly)
    (rw (
      c.presentation.ensures ∙ c.in_ok-left.ensures.unchanged.presentation,
      c.lower.ensures.value ∙
          c.in_ok-left.ensures.basis,
    ) at c.in_ok-h.ensures.value)

pub returns-then-is_some-clause-canonical : goal.returns-then-is_some-clause-canonical
returns-then-is_some-clause-canonical g c = c.in_ok-left.ensures.subduced.canonical.value

pub returns-clause-canonical : goal.returns-clause-canonical
returns-clause-canonical g c =
    rw (c.presentation.ensures ∙ c.in_ok-left.ensures.unchanged.presentation) at c.in_ok-h.ensures.canonical
