-- The sum of a row is at most a thousand times the degree.
use Rattle.std.proofs.Common.{◌≡◌, ℕ, zero, suc, ◌*◌, ◌<◌, ◌≤◌, ◌^◌, List, [], ◌∷◌, length, get_or, arith, true}
use Rattle.monomial_order.specs.Monomial.{weighted_degree}
use Rattle.monomial_order.specs.laws.Orders.{ArePositive, between_first, between_rest, positive_weights, rows_first, rows_rest}
use Rattle.monomial_order.specs.Ranges.{all_between, are_rows}

row_sum : (ws row m : List ℕ) → length row ≡ length ws → all_between 0 1000 row ≡ true → ArePositive ws → weighted_degree row m ≤ 1000 * weighted_degree ws m
row_sum ws [] m e h p = omega arith
row_sum [] (r ∷ row) m e h p = absurd (omega arith)
row_sum (w ∷ ws) (r ∷ row) [] e h p = omega arith
row_sum (w ∷ ws) (r ∷ row) (x ∷ m) e h p =
    let b = between_first 0 1000 r row h in
    let s = row_sum ws row m (omega arith) (between_rest 0 1000 r row h) p.1 in
    let k : r * x ≤ 1000 * x = Rattle.std.proofs.Math.Nat.mul-le-mul_right x b.1 in
    let j : 1 * x ≤ w * x = Rattle.std.proofs.Math.Nat.mul-le-mul_right x p.0 in
    omega arith

pub row_sum_fits : (ws : List ℕ) (rows : List (List ℕ)) (i : ℕ) (d m : List ℕ) → all_between 1 64 ws ≡ true → are_rows (length ws) rows ≡ true → i < length rows →
    weighted_degree ws m ≤ 65535 → weighted_degree (get_or rows i d) m < 2 ^ 32
row_sum_fits ws rows i d m h k l s =
    let e = row_of rows i k l in omega arith
  where
    row_of : (rows : List (List ℕ)) (i : ℕ) → are_rows (length ws) rows ≡ true → i < length rows → weighted_degree (get_or rows i d) m ≤ 1000 * weighted_degree ws m
    row_of [] i k l = absurd (omega arith)
    row_of (row ∷ rows) zero k l = let f = rows_first (length ws) row rows k in row_sum ws row m f.0 f.1 (positive_weights 1 64 ws (omega arith) h)
    row_of (row ∷ rows) (suc i) k l = row_of rows i (rows_rest (length ws) row rows k) (omega arith)
