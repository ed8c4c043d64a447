use Rattle.std.proofs.Common.{sym, ◌∙◌, subst, arith}
use Rattle.poly_core.specs.Presentation.{presented}
use Rattle.witness.specs.Tracking.{values_of}
use Rattle.tete_lift.specs.Lifting.{IsLifted, IsRightSide}
use Rattle.completion.proofs.Sides.{side_made}
use Rattle.completion.proofs.closing.made_side.Goals as goal

pub returns-in_err-side-clause-words : goal.returns-in_err-side-clause-words
returns-in_err-side-clause-words g c d l a =
    c.lift_with.ensures.words d (let e = c.requires.word.degree in omega arith) a

pub returns-clause-words : goal.returns-clause-words
returns-clause-words g c d l a = c.lift_with.ensures.words d (let e = c.requires.word.degree in omega arith) a

pub returns-clause-side : goal.returns-clause-side
returns-clause-side g c =
    let P = presented g.F.Field.ops g.O.Order.order c.args.p.now in
    let b = c.args.basis.now in
    let u = c.args.f.now.word in
    let R : IsRightSide P (values_of b.elements) u c.in-Relation.side = subst (IsLifted P b u) c.in-Relation.is
    c.in_ok-side.ensures.lifted in
    side_made (IsRightSide P (values_of b.elements) u) c.args.f.now.right c.in-Relation.side
    (sym c.is_some.ensures ∙ c.if-is_some.false)
    R
