use Rattle.std.proofs.Common.{arith}
use Rattle.monomial_order.proofs.PlaceLemmas.{product_is}
use Rattle.monomial_order.proofs.places.add_places.Goals as goal

pub returns : goal.returns
returns c =
    product_is c.loop-i.sums c.args.sums.now c.args.exponents.now c.loop-i.auto.sums c.requires.short (λ k l. c.loop-i.invariant.done k (omega arith)) (λ k l. c.loop-i.invariant.left k (omega arith))
