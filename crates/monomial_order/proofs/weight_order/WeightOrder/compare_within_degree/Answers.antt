use Rattle.std.proofs.Common.{◌≡◌, ◌<◌, ◌≤◌, true, ◌^◌, ℕ, List, length, subst, sym, ◌∙◌, ap, get_or}
use Rattle.monomial_order.specs.Monomial.{weighted_degree}
use Rattle.monomial_order.specs.Ranges.{all_between, are_rows}
use Rattle.monomial_order.proofs.RowSums.{row_sum_fits}
use Rattle.monomial_order.proofs.weight_order.WeightOrder.compare_within_degree.Goals as goal

-- the entries of the row at hand
row_fits : (ws : List ℕ) (rows slice : List (List ℕ)) (i : ℕ) (row entries m : List ℕ) → all_between 1 64 ws ≡ true → are_rows (length ws) rows ≡ true → slice ≡ rows → i < length slice →
    row ≡ get_or slice i row → entries ≡ row → weighted_degree ws m ≤ 65535 → weighted_degree entries m < 2 ^ 32
row_fits ws rows slice i row entries m h k e l at is small =
    subst (λ r. weighted_degree r m < 2 ^ 32) (sym (is ∙ (at ∙ ap (λ xs. get_or xs i row) e))) (row_sum_fits ws rows i row m h k (subst (λ xs. i < length xs) e l) small)

pub weighted_sum-requires : goal.weighted_sum-requires
weighted_sum-requires c =
    row_fits c.args.self.now.weights.items c.args.self.now.rows.items c.as_slice-row-items.result.now c.loop-row.row-index c.row-item.result c.entries.result.now c.args.a.now
    c.args.self.now.weights_in_range c.args.self.now.rows_in_range c.as_slice-row-items.ensures.value c.loop-row-test.true c.row-item.is c.entries.ensures c.requires.left

pub weighted_sum-requires-in-loop-row : goal.weighted_sum-requires-in-loop-row
weighted_sum-requires-in-loop-row c =
    row_fits c.args.self.now.weights.items c.args.self.now.rows.items c.as_slice-row-items.result.now c.loop-row.row-index c.row-item.result c.entries-in-loop-row.result.now c.args.b.now
    c.args.self.now.weights_in_range c.args.self.now.rows_in_range c.as_slice-row-items.ensures.value c.loop-row-test.true c.row-item.is c.entries-in-loop-row.ensures c.requires.right
