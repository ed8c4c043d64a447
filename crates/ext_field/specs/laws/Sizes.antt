-- A field of pairs is known by its size.
use Rattle.std.proofs.Common.{◌≡◌, ℕ, ◌+◌, ◌*◌, ◌<◌, ◌≤◌, true, refl, sym, ◌∙◌, ap, subst, arith}
use Rattle.std.proofs.Math.Bool.{Bool-set}
use Rattle.std.proofs.Math.Bridge.{le_prop}
use Rattle.ext_field.specs.declared.pair_field.PairField.{PairField}
use Rattle.ext_field.specs.PairField.{pair, pairs, pairs_of, is_square, is_pair_size}
use Rattle.ext_field.specs.laws.Primes.{square_cases}

pub square_size : (p t u : ℕ) → is_square p t u ≡ true → is_pair_size (p * p) ≡ true
square_size = square_cases (λ p t u. is_pair_size (p * p) ≡ true) refl refl refl

pub pairs_of_square : (p t u : ℕ) → is_square p t u ≡ true → pairs_of (p * p) ≡ pairs p t u
pairs_of_square = square_cases (λ p t u. pairs_of (p * p) ≡ pairs p t u) refl refl refl

-- the primes, and what goes with them, from the size
record IsSquare (p t u q v w : ℕ) : Type 0 where
  prime : p ≡ q
  low : t ≡ v
  high : u ≡ w

square_same : (p t u : ℕ) → is_square p t u ≡ true → (q v w : ℕ) → is_square q v w ≡ true → p * p ≡ q * q → IsSquare p t u q v w
square_same p t u h q v w k =
    square_cases (λ p t u. p * p ≡ q * q → IsSquare p t u q v w)
    (square_cases (λ q v w. 4 ≡ q * q → IsSquare 2 1 1 q v w) (λ e. record { prime = refl; low = refl; high = refl }) (λ e. absurd (omega arith)) (λ e. absurd (omega arith)) q v w k)
    (square_cases (λ q v w. 9 ≡ q * q → IsSquare 3 2 0 q v w) (λ e. absurd (omega arith)) (λ e. record { prime = refl; low = refl; high = refl }) (λ e. absurd (omega arith)) q v w k)
    (square_cases (λ q v w. 49 ≡ q * q → IsSquare 7 6 0 q v w) (λ e. absurd (omega arith)) (λ e. absurd (omega arith)) (λ e. record { prime = refl; low = refl; high = refl }) q v w k)
    p t u h

reciprocal_same : (p t u r s : ℕ) → is_square p t u ≡ true → 65536 ≤ p * r → p * r < 65536 + p → 65536 ≤ p * s → p * s < 65536 + p → r ≡ s
reciprocal_same p t u r s h =
    square_cases (λ p t u. 65536 ≤ p * r → p * r < 65536 + p → 65536 ≤ p * s → p * s < 65536 + p → r ≡ s)
    (λ a b c d. omega arith) (λ a b c d. omega arith) (λ a b c d. omega arith) p t u h

made : (p t u r : ℕ) → is_square p t u ≡ true → 65536 ≤ p * r → p * r < 65536 + p → PairField
made p t u r a b c = record { prime = p; square = pair t u; reciprocal = r; chosen = a; rounded = b; closest = c }

-- the facts of a field have one proof each
facts_same : (p t u r : ℕ) (a : is_square p t u ≡ true) (b : 65536 ≤ p * r) (c : p * r < 65536 + p) (d : is_square p t u ≡ true) (e : 65536 ≤ p * r) (f : p * r < 65536 + p)
    → made p t u r a b c ≡ made p t u r d e f
facts_same p t u r a b c d e f =
    ap (λ x. made p t u r x b c) (Bool-set (is_square p t u) true a d) ∙
    (ap (λ x. made p t u r d x c) (le_prop b e) ∙ ap (λ x. made p t u r d e x) (le_prop c f))

made_same : (p t u r : ℕ) (a : is_square p t u ≡ true) (b : 65536 ≤ p * r) (c : p * r < 65536 + p) (q v w s : ℕ) → p ≡ q → t ≡ v → u ≡ w → r ≡ s →
    (d : is_square q v w ≡ true) (e : 65536 ≤ q * s) (f : q * s < 65536 + q) → made p t u r a b c ≡ made q v w s d e f
made_same p t u r a b c q v w s hp ht hu hr =
    subst (λ (x : ℕ). (d : is_square x v w ≡ true) (e : 65536 ≤ x * s) (f : x * s < 65536 + x) → made p t u r a b c ≡ made x v w s d e f) hp
    (subst (λ (x : ℕ). (d : is_square p x w ≡ true) (e : 65536 ≤ p * s) (f : p * s < 65536 + p) → made p t u r a b c ≡ made p x w s d e f) ht
    (subst (λ (x : ℕ). (d : is_square p t x ≡ true) (e : 65536 ≤ p * s) (f : p * s < 65536 + p) → made p t u r a b c ≡ made p t x s d e f) hu
    (subst (λ (x : ℕ). (d : is_square p t u ≡ true) (e : 65536 ≤ p * x) (f : p * x < 65536 + p) → made p t u r a b c ≡ made p t u x d e f) hr (facts_same p t u r a b c))))

pub one_field : (f g : PairField) → f.prime * f.prime ≡ g.prime * g.prime → f ≡ g
unfolding made
one_field f g size =
    let same = square_same f.prime f.square.low f.square.high f.chosen g.prime g.square.low g.square.high g.chosen size in
    made_same f.prime f.square.low f.square.high f.reciprocal f.chosen f.rounded f.closest g.prime g.square.low g.square.high g.reciprocal same.prime same.low same.high
    (reciprocal_same f.prime f.square.low f.square.high f.reciprocal g.reciprocal f.chosen f.rounded f.closest
    (subst (λ (x : ℕ). 65536 ≤ x * g.reciprocal) (sym same.prime) g.rounded) (subst (λ (x : ℕ). x * g.reciprocal < 65536 + x) (sym same.prime) g.closest))
    g.chosen g.rounded g.closest
