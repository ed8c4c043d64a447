use Rattle.std.proofs.Common.{◌≡◌, ◌≤◌, ◌<◌, ◌+◌, ℕ, length, get_or, []}
use Rattle.std.specs.Prelude.{All}
use Rattle.monomial_order.specs.Monomial.{exponent}
use Rattle.poly_core.specs.Powers.{ArePowers}
use Rattle.poly_core.proofs.values.power_table.Given as goal

abbrev pub invariant-loop-place : goal.invariant-loop-place
invariant-loop-place g l = record {
  rows : length l.table.items ≡ l.place;
  powers : (i : ℕ) → i < l.place → ArePowers (g.F.Field.ops l.f) (g.O.Order.order l.o) (get_or l.at i []) (get_or l.table.items i []);
  reached : (i : ℕ) → i < l.place → All (λ t. exponent t.at i ≤ length (get_or l.table.items i []) + 1) l.h;
}
