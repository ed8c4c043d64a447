-- The three primes with their t and u: x * x is never t + u * x, and the fifth power of a number inverts it. These
-- are in specs/, and not in proofs/, since the laws that `PairField` gives as a `Field` cite them.
use Rattle.std.proofs.Common.{◌≡◌, ◌≢◌, ℕ, zero, suc, ◌+◌, ◌*◌, ◌%◌, ◌<◌, ◌≤◌, refl, sym, ◌∙◌, ap, subst, Bool, true, false, arith, ⊎_elim}
use Rattle.std.specs.Prelude.{◌||◌, ◌&&◌, not, nat_eq}
use Rattle.std.proofs.lemmas.Bool.{or_cases, and_parts, eqb-true, eq-eqb}
use Rattle.std.proofs.lemmas.Bool.Decides.{nat_tests}
use Rattle.std.proofs.Math.Nat.{mod-lt, add-mod-mod}
use Rattle.std.proofs.lemmas.Nat.{mul-mod, mul-mod_second}
use Rattle.word_field.specs.Residues.{is_listed}
use Rattle.word_field.specs.laws.Primes.{not_both}
use Rattle.ext_field.specs.PairField.{is_square}

-- what holds at the three primes
pub square_cases : (P : ℕ → ℕ → ℕ → Type 0) → P 2 1 1 → P 3 2 0 → P 7 6 0 → (p t u : ℕ) → is_square p t u ≡ true → P p t u
square_cases P two three seven p t u h =
    ⊎_elim (λ h. ⊎_elim (at 2 1 1 two) (at 3 2 0 three) (or_cases _ _ h)) (at 7 6 0 seven) (or_cases _ _ h)
  where
    at : (q a b : ℕ) → P q a b → nat_eq p q && nat_eq t a && nat_eq u b ≡ true → P p t u
    at q a b v h =
        let both = and_parts (nat_eq p q && nat_eq t a) (nat_eq u b) h in
        let parts = and_parts (nat_eq p q) (nat_eq t a) both.0 in
        subst (λ n. P n t u) (sym (eqb-true p q parts.0))
        (subst (λ n. P q n u) (sym (eqb-true t a parts.1)) (subst (λ n. P q a n) (sym (eqb-true u b both.1)) v))

pub square_listed : (p t u : ℕ) → is_square p t u ≡ true → is_listed p ≡ true
square_listed = square_cases (λ p t u. is_listed p ≡ true) refl refl refl

pub square_small : (p t u : ℕ) → is_square p t u ≡ true → (1 < p) × (p ≤ 7) × (t < p) × (u ≤ 1)
square_small = square_cases (λ p t u. (1 < p) × (p ≤ 7) × (t < p) × (u ≤ 1)) (omega arith, omega arith, omega arith, omega arith) (omega arith, omega arith, omega arith, omega arith) (omega arith, omega arith, omega arith, omega arith)

-- no x below k has the square t + u * x
abbrev is_rootless : ℕ → ℕ → ℕ → ℕ → Bool
is_rootless p t u zero = true
is_rootless p t u (suc k) = not (nat_eq (k * k % p) ((t + u * k) % p)) && is_rootless p t u k

rootless_at : (p t u k x : ℕ) → is_rootless p t u k ≡ true → x < k → x * x % p ≢ (t + u * x) % p
rootless_at p t u zero x h l e = omega arith
rootless_at p t u (suc k) x h l e =
    let parts = and_parts (not (nat_eq (k * k % p) ((t + u * k) % p))) (is_rootless p t u k) h in
    elim (nat_eq x k) as (λ b. nat_eq x k ≡ b → ⊥) [
      | true ↦ λ same. not_both (nat_eq (k * k % p) ((t + u * k) % p)) parts.0
          (eq-eqb _ _ (subst (λ n. n * n % p ≡ (t + u * n) % p) (eqb-true x k same) e))
      | false ↦ λ differ. rootless_at p t u k x parts.1 (below x k l differ) e
    ] refl
  where
    below : (x k : ℕ) → x < suc k → nat_eq x k ≡ false → x < k
    below x k h n = grind (arith, nat_tests)

-- x * x - u * x - t has no root modulo p
pub no_root : (p t u x : ℕ) → is_square p t u ≡ true → x * x % p ≢ (t + u * x) % p
no_root p t u x h e =
    let small = square_small p t u h in
    let low : x % p < p = mod-lt x (let s = small.0 in omega arith) in
    rootless_at p t u 7 (x % p) (square_cases (λ p t u. is_rootless p t u 7 ≡ true) refl refl refl p t u h) (let s = small.1 in omega arith)
    (sym (mul-mod x x p) ∙ (e ∙ (sym (add-mod-mod t (u * x) p) ∙ (ap (λ n. (t + n) % p) (sym (mul-mod_second u x p)) ∙ add-mod-mod t (u * (x % p)) p))))

-- the fifth power modulo p
abbrev pub fifth_power : ℕ → ℕ → ℕ
fifth_power p n = n * n % p * (n * n % p) % p * n % p

-- it inverts each number below k that is not 0
abbrev is_inverted : ℕ → ℕ → Bool
is_inverted p zero = true
is_inverted p (suc k) = (nat_eq (k % p) 0 || nat_eq (k * fifth_power p k % p) 1) && is_inverted p k

inverted_at : (p k x : ℕ) → is_inverted p k ≡ true → x < k → x % p ≢ 0 → x * fifth_power p x % p ≡ 1
inverted_at p zero x h l n = absurd (omega arith)
inverted_at p (suc k) x h l n =
    let parts = and_parts (nat_eq (k % p) 0 || nat_eq (k * fifth_power p k % p) 1) (is_inverted p k) h in
    elim (nat_eq x k) as (λ b. nat_eq x k ≡ b → x * fifth_power p x % p ≡ 1) [
      | true ↦ λ same. let is : x ≡ k = eqb-true x k same in
          ⊎_elim (λ z. absurd (n (subst (λ y. y % p ≡ 0) (sym is) (eqb-true _ _ z)))) (λ i. subst (λ y. y * fifth_power p y % p ≡ 1) (sym is) (eqb-true _ _ i))
          (or_cases _ _ parts.0)
      | false ↦ λ differ. inverted_at p k x parts.1 (below x k l differ) n
    ] refl
  where
    below : (x k : ℕ) → x < suc k → nat_eq x k ≡ false → x < k
    below x k h n = grind (arith, nat_tests)

pub fifth_power_inverts : (p t u x : ℕ) → is_square p t u ≡ true → x < p → x ≢ 0 → x * fifth_power p x % p ≡ 1
fifth_power_inverts p t u x h l n =
    let small = (square_small p t u h).1 in
    inverted_at p 7 x (square_cases (λ p t u. is_inverted p 7 ≡ true) refl refl refl p t u h) (omega arith)
    (λ z. n (sym (Rattle.std.proofs.Math.Nat.mod-eq_of_lt l) ∙ z))
