use Rattle.std.proofs.Common.{◌<◌, subst, ℕ, length, arith, get_or}
use borrow.Author.Count.{below_more}
use Rattle.monomial_order.specs.laws.Lists.{contains_at}
use Rattle.poly_core.specs.Presentation.{presented}
use Rattle.quotient_gb.specs.DegreeStep.{ReducesPairOf}
use Rattle.quotient_gb.proofs.Places.{at_default, below_stop}
use Rattle.quotient_gb.proofs.SPolynomials.{no_pair}
use Rattle.quotient_gb.proofs.later_degrees.all_reduce_to_zero.Goals as goal

pub pairs-init : goal.pairs-init
pairs-init g c = λ k l. absurd (none k l)
  where
    none : (k : ℕ) → k < 0 → ⊥
    none k l = omega arith

pub reduces_to_zero-requires-clause-pair : goal.reduces_to_zero-requires-clause-pair
reduces_to_zero-requires-clause-pair g c = c.requires.pairs (get_or c.args.pairs.now c.pairs.pair-index no_pair) (contains_at c.args.pairs.now c.pairs.pair-index no_pair c.pairs-test.true)

pub pairs-preserved : goal.pairs-preserved
pairs-preserved g c = below_more (λ k. ReducesPairOf (presented g.F.Field.ops g.O.Order.order c.args.p.now) c.args.basis.now.members.items (get_or c.args.pairs.now k no_pair)) c.pairs.pair-index c.pairs.invariant
    (c.in_ok-reduces_to_zero.ensures.yes c.if-not-branch.false)

pub returns-clause-yes : goal.returns-clause-yes
returns-clause-yes g c = λ t w k.
    let P = presented g.F.Field.ops g.O.Order.order c.args.p.now in
    subst (ReducesPairOf P c.args.basis.now.members.items) (at_default c.args.pairs.now k.0 w no_pair k.1 k.2)
    (c.pairs.invariant k.0 (below_stop k.0 (length c.args.pairs.now) c.pairs.pair-index k.1 c.pairs-test.false))
