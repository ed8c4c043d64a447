-- The norm of a pair is its product with its conjugate, and 0 only at the pair of zeros.
use Rattle.std.proofs.Common.{◌≡◌, ◌≢◌, ℕ, ◌+◌, ◌-◌, ◌*◌, ◌%◌, ◌<◌, true, sym, ◌∙◌, ap, subst, arith, ⊎_elim}
use Rattle.std.proofs.Math.Nat.{add-mul-mod_self_right, mod-eq_of_lt, mod-add-mod, add-mod-mod}
use Rattle.std.proofs.lemmas.Nat.{mul-mod_first, mul-mod_second}
use Rattle.word_field.specs.Residues.{residues}
use Rattle.word_field.specs.laws.Residues.{residues_field}
use Rattle.word_field.specs.laws.Field.{times_is_zero}
use Rattle.ext_field.specs.PairField.{is_square}
use Rattle.ext_field.specs.laws.Primes.{no_root, square_listed, square_small}

-- the product of (a, b) and (a + u * b, p - b) has this in the first place, and 0 in the second
abbrev pub norm : ℕ → ℕ → ℕ → ℕ → ℕ → ℕ
norm p t u a b = a * (a + u * b) + t * b * (p - b)

-- a factor that is 1 modulo p is left out
one_left : (p m g n : ℕ) → g % p ≡ 1 → (n + m * g) % p ≡ (n + m) % p
one_left p m g n h =
    sym (add-mod-mod n (m * g) p) ∙
    (ap (λ x. (n + x) % p) (sym (mul-mod_second m g p) ∙ (ap (λ x. (m * x) % p) h ∙ ap (λ x. x % p) (let e : m * 1 ≡ m = omega arith in e))) ∙ add-mod-mod n m p)

-- If y is -x, and g is 1 and z is -g, modulo p, then this sum is 0 only if x is a root of x * x - u * x - t.
root_from : (p t u c x y z g : ℕ) → x + y ≡ c * p → z + g ≡ c * p → g % p ≡ 1 → (y * y + u * y * g + t * z * g) % p ≡ 0 → x * x % p ≡ (t + u * x) % p
root_from p t u c x y z g hx hz one zero =
    let squares : x * x + y * c * p ≡ y * y + x * c * p =
    (let e : x * x + y * c * p ≡ x * x + y * (c * p) = omega arith in e) ∙
    (ap (λ n. x * x + y * n) (sym hx) ∙
    ((let e : x * x + y * (x + y) ≡ y * y + x * (x + y) = omega arith in e) ∙
    (ap (λ n. y * y + x * n) hx ∙ (let e : y * y + x * (c * p) ≡ y * y + x * c * p = omega arith in e)))) in
    let sums : (y * y + t * z + u * y) + (u * x + t * g) ≡ y * y + (t * c + u * c) * p =
    (let e : (y * y + t * z + u * y) + (u * x + t * g) ≡ y * y + t * (z + g) + u * (x + y) = omega arith in e) ∙
    (ap (λ n. y * y + t * n + u * (x + y)) hz ∙
    (ap (λ n. y * y + t * (c * p) + u * n) hx ∙ (let e : y * y + t * (c * p) + u * (c * p) ≡ y * y + (t * c + u * c) * p = omega arith in e))) in
    let none : (y * y + t * z + u * y) % p ≡ 0 =
    sym (one_left p (u * y) g (y * y + t * z) one) ∙
    (ap (λ n. n % p) (let e : y * y + t * z + u * y * g ≡ y * y + u * y * g + t * z = omega arith in e) ∙
    (sym (one_left p (t * z) g (y * y + u * y * g) one) ∙ zero)) in
    sym (add-mul-mod_self_right (x * x) (y * c) p) ∙
    (ap (λ n. n % p) squares ∙
    (add-mul-mod_self_right (y * y) (x * c) p ∙
    (sym (add-mul-mod_self_right (y * y) (t * c + u * c) p) ∙
    (ap (λ n. n % p) (sym sums) ∙
    (sym (mod-add-mod (y * y + t * z + u * y) p (u * x + t * g)) ∙
    (ap (λ n. (n + (u * x + t * g)) % p) none ∙
    (ap (λ n. n % p) (let e : 0 + (u * x + t * g) ≡ u * x + t * g = omega arith in e) ∙
    (one_left p t g (u * x) one ∙ ap (λ n. n % p) (let e : u * x + t ≡ t + u * x = omega arith in e)))))))))

module _ (p t u : ℕ) (h : is_square p t u ≡ true) where
  no_norm : (a b v w : ℕ) → v + a ≡ p → w + b ≡ p → (a * (a + u * b) + t * b * w) % p ≡ 0 → (c : ℕ) × (b * c % p ≡ 1) → ⊥
  no_norm a b v w hv hw zero c =
      no_root p t u (v * c.0) h (root_from p t u c.0 (v * c.0) (a * c.0) (w * c.0) (b * c.0)
      ((let e : v * c.0 + a * c.0 ≡ c.0 * (v + a) = omega arith in e) ∙ ap (λ n. c.0 * n) hv)
      ((let e : w * c.0 + b * c.0 ≡ c.0 * (w + b) = omega arith in e) ∙ ap (λ n. c.0 * n) hw) c.1
      (ap (λ n. n % p) (shape c.0) ∙ (sym (mul-mod_first (a * (a + u * b) + t * b * w) (c.0 * c.0) p) ∙
      (ap (λ n. n * (c.0 * c.0) % p) zero ∙ ap (λ n. n % p) (let e : 0 * (c.0 * c.0) ≡ 0 = omega arith in e) ∙ mod-eq_of_lt (let s = square_small p t u h in omega arith)))))
    where
      shape : (c : ℕ) → a * c * (a * c) + u * (a * c) * (b * c) + t * (w * c) * (b * c) ≡ (a * (a + u * b) + t * b * w) * (c * c)
      shape c = omega arith

  -- of numbers below p
  pub norm_is_zero : (a b : ℕ) → a < p → b < p → norm p t u a b % p ≡ 0 → (a ≡ 0) × (b ≡ 0)
  norm_is_zero a b la lb zero = ⊎_elim (λ e. (flat e, e)) (λ n. absurd (some n)) ((residues_field p (square_listed p t u h)).equal_or_not b 0)
    where
      some : b ≢ 0 → ⊥
      some n = no_norm a b (p - a) (p - b) (omega arith) (omega arith) zero
          ((residues_field p (square_listed p t u h)).inverse b (λ e. n (sym (mod-eq_of_lt lb) ∙ e)))

      flat : b ≡ 0 → a ≡ 0
      flat e =
          let square : a * a % p ≡ 0 = ap (λ n. n % p) (subst (λ n. a * a ≡ norm p t u a n) (sym e) (let k : a * a ≡ a * (a + u * 0) + t * 0 * (p - 0) = omega arith in k)) ∙ zero in
          let zeros = times_is_zero (residues p) (residues_field p (square_listed p t u h)) a a square in
          sym (mod-eq_of_lt la) ∙ ⊎_elim (λ k. k) (λ k. k) zeros
