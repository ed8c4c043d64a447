-- The residues modulo a listed size are a field. They are in specs/, and not in proofs/, since the laws
-- that `WordField` gives as a `Field` cite them, and such laws cite specs/ alone.
use Rattle.std.proofs.Common.{◌≡◌, ◌≢◌, ℕ, zero, suc, ◌+◌, ◌-◌, ◌*◌, ◌/◌, ◌%◌, ◌<◌, ◌≤◌, refl, sym, ◌∙◌, ap, subst, true, false, arith, ◌⊎◌, inl, inr, add_comm, add_assoc}
use Rattle.std.specs.Prelude.{nat_eq, ◌↔◌}
use Rattle.std.proofs.lemmas.Bool.{eqb-true, eq-eqb, true≢false}
use Rattle.std.proofs.Math.Nat.{add-mul-mod_self_left, mul-add-mod_self_left, mod-lt, mod-add-div, mod-eq_of_lt, mod-mod, mod-add-mod, add-mod-mod, mul_comm, mul_assoc, mod_self, add-mod_right, mul-add-mod_self_right}
use Rattle.std.proofs.lemmas.Nat.{mul-mod_first, mul-mod_second}
use Rattle.word_field.specs.Field.{IsField}
use Rattle.word_field.specs.Residues.{residues, is_listed}
use Rattle.word_field.specs.laws.Primes.{prime, listed_above_one}

-- from the inverse of a remainder to that of the divisor: the modulus is k + 1
inverse_step : (k a q r b : ℕ) → r + a * q ≡ k + 1 → (r * b) % (k + 1) ≡ 1 → (a * (k * (q * b))) % (k + 1) ≡ 1
inverse_step k a q r b e h =
    let whole : a * (k * (q * b)) + (k + 1) * b ≡ (k + 1) * (a * (q * b)) + r * b =
    ap (λ x. a * (k * (q * b)) + x * b) (sym e) ∙ omega arith in
    sym (add-mul-mod_self_left (a * (k * (q * b))) (k + 1) b) ∙ (ap (λ x. x % (k + 1)) whole ∙ (mul-add-mod_self_left (k + 1) (a * (q * b)) (r * b) ∙ h))

-- a nonzero number below p has an inverse, by the remainders of p
inverse_below : (p : ℕ) → is_listed p ≡ true → (n a : ℕ) → a ≤ n → 0 < a → a < p → (b : ℕ) × ((a * b) % p ≡ 1)
inverse_below p h zero a l pos lt = absurd (omega arith)
inverse_below p h (suc n) a l pos lt =
    elim (nat_eq a 1) as (λ v. nat_eq a 1 ≡ v → (b : ℕ) × ((a * b) % p ≡ 1)) [
      | true ↦ λ e. (1, ap (λ x. (x * 1) % p) (eqb-true a 1 e) ∙ mod-eq_of_lt (listed_above_one p h))
      | false ↦ λ e. step (differs a e) (inverse_below p h n (p % a))
    ] refl
  where
    differs : (a : ℕ) → nat_eq a 1 ≡ false → a ≢ 1
    differs a e k = true≢false (sym (eq-eqb a 1 k) ∙ e)

    step : a ≢ 1 → (p % a ≤ n → 0 < p % a → p % a < p → (b : ℕ) × ((p % a * b) % p ≡ 1)) → (b : ℕ) × ((a * b) % p ≡ 1)
    step ne ih =
        let smaller : p % a < a = mod-lt p pos in
        let some : p % a ≢ 0 = prime p a h (omega arith) lt in
        let r : (b : ℕ) × ((p % a * b) % p ≡ 1) = ih (omega arith) (omega arith) (omega arith) in
        let size : (p - 1) + 1 ≡ p = omega arith in (
          (p - 1) * (p / a * r.0),
          subst (λ m. (a * ((p - 1) * (p / a * r.0))) % m ≡ 1) size
              (inverse_step (p - 1) a (p / a) (p % a) r.0 (mod-add-div p a ∙ sym size) (subst (λ m. (p % a * r.0) % m ≡ 1) (sym size) r.1)),
        )

-- the laws
pub residues_field : (p : ℕ) → is_listed p ≡ true → IsField (residues p)
residues_field p h = record {
  plus_assoc = λ a b c. mod-add-mod (a + b) p c ∙ (ap (λ x. x % p) (add_assoc a b c) ∙ sym (add-mod-mod a (b + c) p));
  plus_comm = λ a b. ap (λ x. x % p) (add_comm a b);
  plus_zero = λ a. ap (λ x. x % p) (let e : a + 0 ≡ a = omega arith in e);
  plus_negate = λ a. add-mod-mod a (p - a % p) p ∙ (sym (mod-add-mod a p (p - a % p)) ∙
      (ap (λ x. x % p) (let low : a % p < p = mod-lt a positive in let e : a % p + (p - a % p) ≡ p = omega arith in e) ∙ mod_self p));
  times_assoc = λ a b c. mul-mod_first (a * b) c p ∙ (ap (λ x. x % p) (mul_assoc a b c) ∙ sym (mul-mod_second a (b * c) p));
  times_comm = λ a b. ap (λ x. x % p) (mul_comm a b);
  times_one = λ a. ap (λ x. x % p) (let e : a * 1 ≡ a = omega arith in e);
  times_plus = λ a b c. mul-mod_second a (b + c) p ∙ (ap (λ x. x % p) (let e : a * (b + c) ≡ a * b + a * c = omega arith in e) ∙
      (sym (mod-add-mod (a * b) p (a * c)) ∙ sym (add-mod-mod (a * b % p) (a * c) p)));
  one_not_zero = λ e. omega arith;
  equal_or_not = λ a b. elim (nat_eq a b) as (λ v. nat_eq a b ≡ v → (a ≡ b) ⊎ (a ≢ b)) [
    | true ↦ λ e. inl (eqb-true a b e)
    | false ↦ λ e. inr (λ k. true≢false (sym (eq-eqb a b k) ∙ e))
  ] refl;
  inverse = λ a n.
      let low : a % p < p = mod-lt a positive in
      let r : (b : ℕ) × ((a % p * b) % p ≡ 1) = inverse_below p h p (a % p) (omega arith) (omega arith) low in
      (r.0, sym (mul-mod_first a r.0 p) ∙ r.1);
  zero_value = mod-eq_of_lt positive;
  one_value = mod-eq_of_lt (listed_above_one p h);
  plus_value = λ a b. mod-mod (a + b) p;
  negate_value = λ a. mod-mod (p - a % p) p;
  times_value = λ a b. mod-mod (a * b) p;
  of_word_value = λ w. mod-mod w p;
  word_below = λ a v. subst (λ x. x < p) v (mod-lt a positive);
  of_word_word = λ a v. v;
  word_of_word = λ w l. mod-eq_of_lt l;
  word_zero = refl;
  word_one = refl;
}
  where
    positive : 0 < p
    positive = let b = listed_above_one p h in omega arith

-- the comparison of numbers
pub residues_eq : (a b : ℕ) → (nat_eq a b ≡ true) ↔ (a ≡ b)
residues_eq a b = (eqb-true a b, eq-eqb a b)

-- one step of the inversion: from a rest to the remainder of p by it
pub inversion_step : (p a x rest : ℕ) → 0 < rest → rest < p → (a * x) % p ≡ rest → (a * ((x * (p - p / rest)) % p)) % p ≡ p % rest
inversion_step p a x rest pos lt h =
    mul-mod_second a (x * (p - p / rest)) p ∙
    (ap (λ y. y % p) (sym (mul_assoc a x (p - p / rest))) ∙
    (sym (mul-mod_first (a * x) (p - p / rest) p) ∙
    (ap (λ y. (y * (p - p / rest)) % p) h ∙
    (ap (λ y. y % p) (expanded (rest - 1) (p - p / rest) (p / rest) (p % rest) rest (omega arith) (let le = Rattle.std.proofs.Math.Nat.div-le_self p rest in omega arith) (mod-add-div p rest)) ∙
    (mul-add-mod_self_right (rest - 1) p (p % rest) ∙ mod-eq_of_lt (let low : p % rest < rest = mod-lt p pos in omega arith))))))
  where
    expanded : (s d q r rest : ℕ) → rest ≡ s + 1 → d + q ≡ p → r + rest * q ≡ p → rest * d ≡ s * p + r
    expanded s d q r rest e sum whole =
        ap (λ x. x * d) e ∙
        (let w : r + (s + 1) * q ≡ p = ap (λ x. r + x * q) (sym e) ∙ whole in
        let t : s * (d + q) ≡ s * p = ap (λ x. s * x) sum in
        omega arith)

-- the next rest is not 0
pub remainder_positive : (p rest : ℕ) → is_listed p ≡ true → 0 < rest → rest ≢ 1 → rest < p → 0 < p % rest
remainder_positive p rest h pos ne lt = let some : p % rest ≢ 0 = prime p rest h (omega arith) lt in omega arith
