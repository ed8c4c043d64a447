use Rattle.std.proofs.Common.{◌≡◌, ◌+◌, drop, sum}
use Rattle.monomial_order.proofs.sums.exponent_sum.Given as goal

-- what is summed, and what is left
abbrev pub invariant-loop-exponent : goal.invariant-loop-exponent
invariant-loop-exponent l = l.sum + sum (drop l.exponent-index l.exponents) ≡ sum l.exponents
