use Rattle.monomial_order.specs.laws.Rank.{rank_falls}
use Rattle.monomial_order.proofs.laws.rank_falls.Goals as goal

pub returns : goal.returns
returns g c = rank_falls (g.O.Order.order c.args.order.now) (g.met.O.Order.laws c.args.order.now)
