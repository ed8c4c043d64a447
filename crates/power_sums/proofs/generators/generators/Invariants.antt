use Rattle.std.proofs.Common.{◌≡◌, ◌-◌, map}
use Rattle.std.specs.List.{range_with_len}
use Rattle.power_sums.specs.PowerSums.{power_sum}
use Rattle.power_sums.proofs.generators.generators.Given as goal

abbrev pub invariant-loop-exponent : goal.invariant-loop-exponent
invariant-loop-exponent g l = l.generators.items ≡ map (power_sum (g.F.Field.ops l.field) l.count) (range_with_len 1 (l.exponent - 1))
