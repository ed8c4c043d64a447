use Rattle.std.proofs.Common.{◌≡◌, take}
use Rattle.monomial_order.proofs.weight_order.copied_rows.Given as goal

abbrev pub invariant-loop-row : goal.invariant-loop-row
invariant-loop-row l = l.copy.items ≡ take l.row-index l.rows
