use Rattle.std.proofs.Common.{◌≡◌, ◌+◌, ◌<◌, ◌∙◌, ℕ, length, ap, refl, arith}
use Rattle.std.specs.Prelude.{remove}
use Rattle.std.proofs.lemmas.List.Edits.{length-remove}
use Rattle.poly_core.specs.Presentation.{presented}
use Rattle.completion.specs.Completion.{pending_of}
use Rattle.completion.proofs.Kept.{kept_after, kept_itself}
use Rattle.completion.proofs.completion.Completion.take_all.Goals as goal

pub candidates-init : goal.candidates-init
candidates-init g c = record {
  completion = c.requires.completion;
  begun = c.requires.begun;
  degree = refl;
  kept = kept_itself (presented g.F.Field.ops g.O.Order.order c.args.self.now.presentation) c.args.self.now;
}

pub returns-in_err-take-clause-kept : goal.returns-in_err-take-clause-kept
returns-in_err-take-clause-kept g c =
    kept_after g.F.Field.ops g.O.Order.order c.args.self.now c.candidates.self c.take.new.self
    c.candidates.invariant.kept c.take.ensures.kept
    (let e = c.candidates.invariant.degree in omega arith) c.candidates.invariant.completion

pub candidates-preserved : goal.candidates-preserved
candidates-preserved g c = record {
  completion = c.take.ensures.completion;
  begun = c.take.ensures.begun;
  degree = c.take.ensures.degree ∙ c.candidates.invariant.degree;
  kept = kept_after g.F.Field.ops g.O.Order.order c.args.self.now c.candidates.self c.take.new.self
      c.candidates.invariant.kept c.take.ensures.kept
      (let e = c.candidates.invariant.degree in omega arith) c.candidates.invariant.completion;
}

less : (a b r : ℕ) → r + 1 ≡ b → a ≡ r → a < b
less a b r l e = omega arith

pub candidates-smaller : goal.candidates-smaller
candidates-smaller g c =
    less (length (pending_of c.take.new.self)) (length (pending_of c.candidates.self))
    (length (remove (pending_of c.candidates.self) c.index-k.result))
    (length-remove (pending_of c.candidates.self) c.index-k.result
    (let i = c.index-k.ensures.inside in let p = c.pending-in-candidates.ensures in omega arith))
    (ap length c.in_ok-take.ensures.rest)
