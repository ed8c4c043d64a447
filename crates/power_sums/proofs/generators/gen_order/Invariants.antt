use Rattle.std.proofs.Common.{◌≡◌, ◌-◌, []}
use Rattle.std.specs.List.{range_with_len}
use Rattle.power_sums.proofs.generators.gen_order.Given as goal

abbrev pub invariant-loop-degree : goal.invariant-loop-degree
invariant-loop-degree l = record {
  x : l.order.x_degrees.items ≡ [];
  s : l.order.s_degrees.items ≡ range_with_len 1 (l.degree - 1);
}
