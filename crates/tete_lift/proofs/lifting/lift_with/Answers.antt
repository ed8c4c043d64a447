use Rattle.std.proofs.Common.{◌≡◌, true, false, sym, ◌∙◌, ap, not}
use Rattle.poly_core.specs.Presentation.{presented}
use Rattle.tete_lift.proofs.Results.{fresh, relation}
use Rattle.tete_lift.proofs.Words.{can_subduce, degree_to}
use Rattle.tete_lift.proofs.lifting.lift_with.Goals as goal

impossible : true ≡ false → ⊥
impossible e = cc

pub subduce_with-requires-clause-can : goal.subduce_with-requires-clause-can
subduce_with-requires-clause-can g c =
    let P = presented g.F.Field.ops g.O.Order.order c.args.p.now in
    can_subduce P c.requires.presentation.presentation c.args.b.now c.requires.basis c.args.u.now c.requires.can
    c.in_ok-word.word c.in_ok-word.ensures.tracked

pub returns-in_err-rest-clause-words : goal.returns-in_err-rest-clause-words
returns-in_err-rest-clause-words g c d l k =
    let P = presented g.F.Field.ops g.O.Order.order c.args.p.now in
    c.subduce_with.ensures.words d
    (degree_to P c.requires.presentation.presentation c.args.b.now c.requires.basis c.args.u.now c.requires.can
    c.in_ok-word.word c.in_ok-word.ensures.tracked d l)
    (c.tracked_word.ensures.words d l k)

pub returns-then-is_none-clause-words : goal.returns-then-is_none-clause-words
returns-then-is_none-clause-words g c d l k =
    let P = presented g.F.Field.ops g.O.Order.order c.args.p.now in
    c.subduce_with.ensures.words d
    (degree_to P c.requires.presentation.presentation c.args.b.now c.requires.basis c.args.u.now c.requires.can
    c.in_ok-word.word c.in_ok-word.ensures.tracked d l)
    (c.tracked_word.ensures.words d l k)

pub returns-clause-words : goal.returns-clause-words
returns-clause-words g c d l k =
    let P = presented g.F.Field.ops g.O.Order.order c.args.p.now in
    c.subduce_with.ensures.words d
    (degree_to P c.requires.presentation.presentation c.args.b.now c.requires.basis c.args.u.now c.requires.can
    c.in_ok-word.word c.in_ok-word.ensures.tracked d l)
    (c.tracked_word.ensures.words d l k)

pub returns-then-is_none-clause-lifted : goal.returns-then-is_none-clause-lifted
returns-then-is_none-clause-lifted g c =
    let P = presented g.F.Field.ops g.O.Order.order c.args.p.now in
    relation P c.requires.presentation.presentation c.args.b.now c.requires.basis c.args.u.now c.requires.can
    c.in_ok-word.word c.in_ok-word.ensures.tracked c.in_ok-rest.field-0 c.in_ok-rest.ensures.subduced
    (c.lead.ensures.zero.0 (c.is_none.ensures ∙ ap not c.if-is_none.true))

pub returns-clause-lifted : goal.returns-clause-lifted
returns-clause-lifted g c =
    let P = presented g.F.Field.ops g.O.Order.order c.args.p.now in
    fresh P c.requires.presentation.presentation c.args.b.now c.requires.basis c.args.u.now c.requires.can
    c.in_ok-word.word c.in_ok-word.ensures.tracked c.in_ok-rest.field-0 c.in_ok-rest.ensures.subduced
    c.uniqueness.ensures.combinations
    (λ z. impossible (sym (c.is_none.ensures ∙ ap not c.if-is_none.false) ∙ c.lead.ensures.zero.1 z))
