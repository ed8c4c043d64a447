use Rattle.std.proofs.Common.{ℕ, ◌<◌, ◌≤◌, [], get_or}
use Rattle.std.specs.Prelude.{All}
use Rattle.monomial_order.proofs.order_fault.find_heavy.Given as goal

-- the weights and the rows so far are light
abbrev pub invariant-loop-r : goal.invariant-loop-r
invariant-loop-r l = record {
  weights_light : All (λ w. w ≤ 64) l.weights;
  rows_light : (k : ℕ) → k < l.r → All (λ e. e ≤ 1000) (get_or l.rows k []);
}
