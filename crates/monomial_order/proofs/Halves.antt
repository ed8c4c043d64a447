-- The part of a word in x and the part in s.
use Rattle.std.proofs.Common.{◌≡◌, ℕ, zero, suc, ◌+◌, ◌*◌, ◌≤◌, ◌∙◌, ap, List, [], ◌∷◌, ◌++◌, length, take, drop, sum, arith}
use Rattle.std.specs.Prelude.{min}
use Rattle.std.proofs.lemmas.List.Sums.{sum_by-cons}
use Rattle.monomial_order.specs.Monomial.{weighted_degree}
use Rattle.monomial_order.specs.laws.Orders.{ArePositive}
use Rattle.monomial_order.specs.laws.Monomial.{weighted_nil}

pub weighted_degree-append : (xs ss m : List ℕ) → weighted_degree (xs ++ ss) m ≡ weighted_degree xs m + weighted_degree ss (drop (length xs) m)
weighted_degree-append [] ss m = omega arith
weighted_degree-append (x ∷ xs) ss [] = let z = weighted_nil ss in omega arith
weighted_degree-append (x ∷ xs) ss (e ∷ m) = let r = weighted_degree-append xs ss m in omega arith

pub take-min : (n : ℕ) (m : List ℕ) → take (min n (length m)) m ≡ take n m
take-min zero m = ap (λ i. take i m) (none (length m))
  where
    none : (l : ℕ) → min 0 l ≡ 0
    none l = omega arith
take-min (suc n) [] = ap (λ i. take {A = ℕ} i []) (none (suc n))
  where
    none : (l : ℕ) → min l 0 ≡ 0
    none l = omega arith
take-min (suc n) (e ∷ m) = ap (λ i. take i (e ∷ m)) (rest n (length m)) ∙ ap (λ k. e ∷ k) (take-min n m)
  where
    rest : (n l : ℕ) → min (suc n) (suc l) ≡ suc (min n l)
    rest n l = omega arith

pub drop-min : (n : ℕ) (m : List ℕ) → drop (min n (length m)) m ≡ drop n m
drop-min zero m = ap (λ i. drop i m) (none (length m))
  where
    none : (l : ℕ) → min 0 l ≡ 0
    none l = omega arith
drop-min (suc n) [] = ap (λ i. drop {A = ℕ} i []) (none (suc n))
  where
    none : (l : ℕ) → min l 0 ≡ 0
    none l = omega arith
drop-min (suc n) (e ∷ m) = ap (λ i. drop i (e ∷ m)) (rest n (length m)) ∙ drop-min n m
  where
    rest : (n l : ℕ) → min (suc n) (suc l) ≡ suc (min n l)
    rest n l = omega arith

-- weights that are not 0 give at least the sum
pub sum_at_most : (ws m : List ℕ) → ArePositive ws → sum (take (length ws) m) ≤ weighted_degree ws m
sum_at_most [] m h = omega arith
sum_at_most (w ∷ ws) [] h = omega arith
sum_at_most (w ∷ ws) (e ∷ m) h =
    let c = sum_by-cons (λ y. y) e (take (length ws) m) in
    let r = sum_at_most ws m h.1 in
    let k : 1 * e ≤ w * e = Rattle.std.proofs.Math.Nat.mul-le-mul_right e h.0 in
    omega arith
