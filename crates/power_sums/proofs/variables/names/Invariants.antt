use Rattle.std.proofs.Common.{◌≡◌, ◌-◌}
use Rattle.std.specs.List.{IsDistinct}
use Rattle.std.specs.Str.{bytes_eq}
use Rattle.power_sums.specs.PowerSums.{variable_names}
use Rattle.power_sums.proofs.variables.names.Given as goal

abbrev pub invariant-loop-number : goal.invariant-loop-number
invariant-loop-number l = record {
  names : l.names ≡ variable_names (l.number-counter - 1);
  distinct : IsDistinct bytes_eq l.names;
}
