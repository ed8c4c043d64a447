use Rattle.std.proofs.Common.{◌∙◌, refl, arith}
use Rattle.poly_core.specs.Presentation.{presented}
use Rattle.completion.proofs.Kept.{kept_after, kept_itself}
use Rattle.completion.proofs.completion.Completion.take_picked.Goals as goal

pub picks-init : goal.picks-init
picks-init g c = record {
  completion = c.requires.completion;
  begun = c.requires.begun;
  degree = refl;
  kept = kept_itself (presented g.F.Field.ops g.O.Order.order c.args.self.now.presentation) c.args.self.now;
}

pub picks-preserved : goal.picks-preserved
picks-preserved g c = record {
  completion = c.take.ensures.completion;
  begun = c.take.ensures.begun;
  degree = c.take.ensures.degree ∙ c.picks.invariant.degree;
  kept = kept_after g.F.Field.ops g.O.Order.order c.args.self.now c.picks.self c.take.new.self c.picks.invariant.kept
      c.take.ensures.kept
      (let e = c.picks.invariant.degree in omega arith) c.picks.invariant.completion;
}

pub returns-in_err-take-clause-kept : goal.returns-in_err-take-clause-kept
returns-in_err-take-clause-kept g c =
    kept_after g.F.Field.ops g.O.Order.order c.args.self.now c.picks.self c.take.new.self c.picks.invariant.kept
    c.take.ensures.kept
    (let e = c.picks.invariant.degree in omega arith) c.picks.invariant.completion

pub returns-in_err-take_all-clause-kept : goal.returns-in_err-take_all-clause-kept
returns-in_err-take_all-clause-kept g c =
    kept_after g.F.Field.ops g.O.Order.order c.args.self.now c.picks.self c.take_all.new.self c.picks.invariant.kept
    c.take_all.ensures.kept
    (let e = c.picks.invariant.degree in omega arith) c.picks.invariant.completion

pub returns-clause-kept : goal.returns-clause-kept
returns-clause-kept g c =
    kept_after g.F.Field.ops g.O.Order.order c.args.self.now c.picks.self c.take_all.new.self c.picks.invariant.kept
    c.take_all.ensures.kept
    (let e = c.picks.invariant.degree in omega arith) c.picks.invariant.completion
