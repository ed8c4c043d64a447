use Rattle.std.proofs.Common.{◌++◌}
use Rattle.witness.specs.Tracking.{by_order}
use Rattle.worked_bases.proofs.expansions.difference.Goals as goal

pub sum-requires-clause-b : goal.sum-requires-clause-b
sum-requires-clause-b c = c.in_ok-negated.ensures.canonical (by_order c.args.w.now) c.requires.b

pub returns-clause-made : goal.returns-clause-made
returns-clause-made c fs d x y = record {
  tracks = λ more h. c.in_ok-sum.ensures.tracks (fs ++ more) (x.tracks more h) (c.in_ok-negated.ensures.tracks (fs ++ more) (y.tracks more h));
  graded = λ more h. c.in_ok-sum.ensures.graded d (x.graded more h) (c.in_ok-negated.ensures.graded (by_order c.args.w.now) d (y.graded more h));
}
