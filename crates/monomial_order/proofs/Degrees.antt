-- A sum of weight times exponent, place by place.
use Rattle.std.proofs.Common.{◌≡◌, ℕ, zero, suc, ◌+◌, ◌*◌, ◌<◌, ◌≤◌, refl, sym, ◌∙◌, ap, List, [], ◌∷◌, length, drop, get_or, arith}
use Rattle.std.specs.Prelude.{min}
use Rattle.monomial_order.specs.Monomial.{exponent, weighted_degree}
use Rattle.monomial_order.specs.laws.Monomial.{weighted_nil}

-- one more place
pub weighted_step : (ws m : List ℕ) (i : ℕ) → i < length ws →
    weighted_degree (drop i ws) (drop i m) ≡ get_or ws i 0 * exponent m i + weighted_degree (drop (i + 1) ws) (drop (i + 1) m)
weighted_step ws m i h = ap' (i + 1) (suc i) (omega arith) (go ws m i h)
  where
    ap' : (x y : ℕ) → x ≡ y → weighted_degree (drop i ws) (drop i m) ≡ get_or ws i 0 * exponent m i + weighted_degree (drop y ws) (drop y m) →
        weighted_degree (drop i ws) (drop i m) ≡ get_or ws i 0 * exponent m i + weighted_degree (drop x ws) (drop x m)
    ap' x y e k = k ∙ ap (λ n. get_or ws i 0 * exponent m i + weighted_degree (drop n ws) (drop n m)) (sym e)

    go : (ws m : List ℕ) (i : ℕ) → i < length ws → weighted_degree (drop i ws) (drop i m) ≡ get_or ws i 0 * exponent m i + weighted_degree (drop (suc i) ws) (drop (suc i) m)
    go [] m i h = absurd (omega arith)
    go (w ∷ ws) [] zero h = let z = weighted_nil ws in omega arith
    go (w ∷ ws) (e ∷ m) zero h = refl
    go (w ∷ ws) [] (suc i) h = go_nil ws i (omega arith)
      where
        go_nil : (ws : List ℕ) (i : ℕ) → i < length ws → weighted_degree (drop i ws) [] ≡ get_or ws i 0 * 0 + weighted_degree (drop (suc i) ws) []
        go_nil ws i h = let a = weighted_nil (drop i ws) in let b = weighted_nil (drop (suc i) ws) in omega arith
    go (w ∷ ws) (e ∷ m) (suc i) h = go ws m i (omega arith)

drop-none : (i : ℕ) → drop {A = ℕ} i [] ≡ []
drop-none zero = refl
drop-none (suc i) = refl

-- past the end of one of the lists nothing is left
pub weighted_end : (ws m : List ℕ) (i : ℕ) → min (length ws) (length m) ≤ i → weighted_degree (drop i ws) (drop i m) ≡ 0
weighted_end [] m i h = ap (λ ws. weighted_degree ws (drop i m)) (drop-none i)
weighted_end (w ∷ ws) [] zero h = refl
weighted_end (w ∷ ws) [] (suc i) h = weighted_nil (drop i ws)
weighted_end (w ∷ ws) (e ∷ m) zero h = absurd (omega arith)
weighted_end (w ∷ ws) (e ∷ m) (suc i) h = weighted_end ws m i (omega arith)
