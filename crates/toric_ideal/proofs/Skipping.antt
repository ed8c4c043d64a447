-- Words without some letters.
use Rattle.std.proofs.Common.{◌≡◌, ℕ, zero, suc, ◌<◌, ◌≤◌, refl, List, [], ◌∷◌, take, arith}
use Rattle.std.specs.Prelude.{sum}
use Rattle.std.proofs.lemmas.List.Sums.{sum_by-cons}
use Rattle.monomial_order.specs.Monomial.{exponent}

-- the first exponents of a word without the first letters sum to 0
pub sum_skipped : (n k : ℕ) (w : List ℕ) → n ≤ k → ((j : ℕ) → j < k → exponent w j ≡ 0) → sum (take n w) ≡ 0
sum_skipped zero k w l h = refl
sum_skipped (suc n) k [] l h = refl
sum_skipped (suc n) zero (e ∷ w) l h = absurd (omega arith)
sum_skipped (suc n) (suc k) (e ∷ w) l h = let a : e ≡ 0 = h 0 (omega arith) in let b = sum_skipped n k w (omega arith) (λ j i. h (suc j) (omega arith)) in let q = sum_by-cons (λ y. y) e (take n w) in omega arith
