use Rattle.subduction.proofs.Halves.{poly_take, poly_drop, small_take, small_drop}
use Rattle.subduction.proofs.term_sum.halves.Goals as goal

pub returns-clause-front : goal.returns-clause-front
returns-clause-front g c = rw c.split_at.ensures.front (poly_take _ _ _ c.args.terms.now c.requires.terms)

pub returns-clause-back : goal.returns-clause-back
returns-clause-back g c = rw c.split_at.ensures.back (poly_drop _ _ _ c.args.terms.now c.requires.terms)

pub returns-clause-front_small : goal.returns-clause-front_small
returns-clause-front_small g c = rw c.split_at.ensures.front (small_take (g.O.Order.order c.args._o.now) _ c.args.terms.now c.requires.small)

pub returns-clause-back_small : goal.returns-clause-back_small
returns-clause-back_small g c = rw c.split_at.ensures.back (small_drop (g.O.Order.order c.args._o.now) _ c.args.terms.now c.requires.small)
