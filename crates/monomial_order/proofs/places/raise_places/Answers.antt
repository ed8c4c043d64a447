use Rattle.std.proofs.Common.{arith}
use Rattle.monomial_order.proofs.PlaceLemmas.{multiple_is}
use Rattle.monomial_order.proofs.places.raise_places.Goals as goal

pub returns : goal.returns
returns c =
    multiple_is c.loop-i.maxima c.args.maxima.now c.args.exponents.now c.loop-i.auto.maxima c.requires (λ k l. c.loop-i.invariant.done k (omega arith)) (λ k l. c.loop-i.invariant.left k (omega arith))
