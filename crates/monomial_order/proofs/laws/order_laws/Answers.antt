use Rattle.monomial_order.specs.laws.Comparing.{one_below, none_below_one}
use Rattle.monomial_order.proofs.laws.order_laws.Goals as goal

pub returns-clause-one_below : goal.returns-clause-one_below
returns-clause-one_below g c = one_below (g.O.Order.order c.args.order.now) (g.met.O.Order.laws c.args.order.now)

pub returns-clause-none_below_one : goal.returns-clause-none_below_one
returns-clause-none_below_one g c = none_below_one (g.O.Order.order c.args.order.now) (g.met.O.Order.laws c.args.order.now)
