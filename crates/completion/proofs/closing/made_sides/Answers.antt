use Rattle.std.proofs.Common.{take}
use Rattle.poly_core.specs.Presentation.{presented}
use Rattle.witness.specs.Tracking.{values_of}
use Rattle.completion.proofs.Sides.{sides_append, take_next}
use Rattle.completion.proofs.closing.made_sides.Goals as goal

pub returns-in_err-made_side-clause-words : goal.returns-in_err-made_side-clause-words
returns-in_err-made_side-clause-words g c d l a = c.made_side.ensures.words d l (c.words.invariant.kept d l a)

pub returns-in_err-push-clause-words : goal.returns-in_err-push-clause-words
returns-in_err-push-clause-words g c d l a = c.made_side.ensures.words d l (c.words.invariant.kept d l a)

pub words-preserved : goal.words-preserved
words-preserved g c =
    let P = presented g.F.Field.ops g.O.Order.order c.args.p.now in
    let S = values_of c.args.basis.now.elements in
    let xs = c.args.found.now in
    let i = c.words.f-index in
    let f = c.f-item.result in
    record {
      values = c.made_side.ensures.values;
      kept = λ d l a. c.made_side.ensures.words d l (c.words.invariant.kept d l a);
      sides = rw c.in_ok-push.ensures.items (rw (take_next xs i f c.words-test.true c.f-item.is)
          (sides_append P S (take i xs) c.words.sides.items f c.in_ok-made_side.field-0 c.words.invariant.sides
          c.in_ok-made_side.ensures.side));
    }
