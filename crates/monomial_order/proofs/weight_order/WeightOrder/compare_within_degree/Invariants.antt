use Rattle.std.proofs.Common.{◌≡◌, drop}
use Rattle.monomial_order.specs.Orders.{by_rows}
use Rattle.monomial_order.specs.Ties.{tie_order}
use Rattle.monomial_order.proofs.weight_order.WeightOrder.compare_within_degree.Given as goal

-- the rows that are left decide
abbrev pub invariant-loop-row : goal.invariant-loop-row
invariant-loop-row l = by_rows (drop l.row-index l.self.rows.items) (tie_order l.self.tie) l.a l.b ≡ by_rows l.self.rows.items (tie_order l.self.tie) l.a l.b
