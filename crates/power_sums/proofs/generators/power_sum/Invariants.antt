use Rattle.std.proofs.Common.{◌≡◌}
use Rattle.power_sums.specs.PowerSums.{power_sum}
use Rattle.power_sums.proofs.generators.power_sum.Given as goal

abbrev pub invariant-loop-place : goal.invariant-loop-place
invariant-loop-place g l = l.terms.items ≡ power_sum (g.F.Field.ops l.field) l.place l.exponent
