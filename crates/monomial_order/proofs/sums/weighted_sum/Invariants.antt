use Rattle.std.proofs.Common.{◌≡◌, ◌+◌, drop}
use Rattle.monomial_order.specs.Monomial.{weighted_degree}
use Rattle.monomial_order.proofs.sums.weighted_sum.Given as goal

-- what is summed, and what is left
abbrev pub invariant-loop-i : goal.invariant-loop-i
invariant-loop-i l = l.sum + weighted_degree (drop l.i l.weights) (drop l.i l.exponents) ≡ weighted_degree l.weights l.exponents
