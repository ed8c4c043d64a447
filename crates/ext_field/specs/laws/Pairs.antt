-- The pairs of numbers below p are a field. They are in specs/, and not in proofs/, since the laws
-- that `PairField` gives as a `Field` cite them, and such laws cite specs/ alone.
use Rattle.std.proofs.Common.{◌≡◌, ◌≢◌, ℕ, ◌+◌, ◌-◌, ◌*◌, ◌/◌, ◌%◌, ◌<◌, ◌≤◌, sym, ◌∙◌, ap, subst, true, arith, inl, inr, ⊎_elim}
use Rattle.std.proofs.Math.Nat.{add-mul-mod_self_left, mul-mod_left, mod-lt, mod-mod, mod-add-div, mod-eq_of_lt, mod-add-mod, add-mod-mod}
use Rattle.std.proofs.lemmas.Nat.{mul-mod_first, div_below, div-mul-add}
use Rattle.word_field.specs.Field.{IsField, IsValue}
use Rattle.word_field.specs.laws.Residues.{residues_field}
use Rattle.ext_field.specs.declared.pair.Pair.{Pair}
use Rattle.ext_field.specs.PairField.{pair, pairs, is_square}
use Rattle.ext_field.specs.laws.Primes.{square_listed, square_small}
use Rattle.ext_field.specs.laws.Norms.{norm, norm_is_zero}

pub pair_eq : {a b c d : ℕ} → a ≡ c → b ≡ d → pair a b ≡ pair c d
pair_eq {b = b} {c = c} h k = ap (λ x. pair x b) h ∙ ap (λ x. pair c x) k

-- sums of products, each with a factor known modulo p
two_terms : (p x y c d : ℕ) → (x % p * c + y % p * d) % p ≡ (x * c + y * d) % p
two_terms p x y c d =
    sym (mod-add-mod (x % p * c) p (y % p * d)) ∙
    (ap (λ n. (n + y % p * d) % p) (mul-mod_first x c p) ∙
    (mod-add-mod (x * c) p (y % p * d) ∙
    (sym (add-mod-mod (x * c) (y % p * d) p) ∙ (ap (λ n. (x * c + n) % p) (mul-mod_first y d p) ∙ add-mod-mod (x * c) (y * d) p))))

module _ (p t u : ℕ) (h : is_square p t u ≡ true) where
  -- products before they are reduced

  abbrev product : Pair → Pair → Pair
  product a b = pair (a.low * b.low + t * a.high * b.high) (a.low * b.high + a.high * b.low + u * a.high * b.high)

  positive : 0 < p
  positive = let b = square_small p t u h in omega arith

  -- a factor may be reduced first
  reduced_times : (a b c d : ℕ) → (pairs p t u).times (pair (a % p) (b % p)) (pair c d) ≡ (pairs p t u).times (pair a b) (pair c d)
  reduced_times a b c d =
      pair_eq
      (ap (λ n. n % p) (low (a % p) (b % p)) ∙ (two_terms p a b c (t * d) ∙ ap (λ n. n % p) (sym (low a b))))
      (ap (λ n. n % p) (high (a % p) (b % p)) ∙ (two_terms p a b d (c + u * d) ∙ ap (λ n. n % p) (sym (high a b))))
    where
      low : (x y : ℕ) → x * c + t * y * d ≡ x * c + y * (t * d)
      low x y = omega arith

      high : (x y : ℕ) → x * d + y * c + u * y * d ≡ x * d + y * (c + u * d)
      high x y = omega arith

  comm : (a b : Pair) → (pairs p t u).times a b ≡ (pairs p t u).times b a
  comm a b =
      pair_eq (ap (λ n. n % p) (low a.low a.high b.low b.high)) (ap (λ n. n % p) (high a.low a.high b.low b.high))
    where
      low : (a b c d : ℕ) → a * c + t * b * d ≡ c * a + t * d * b
      low a b c d = omega arith

      high : (a b c d : ℕ) → a * d + b * c + u * b * d ≡ c * b + d * a + u * d * b
      high a b c d = omega arith

  assoc : (a b c : Pair) → (pairs p t u).times ((pairs p t u).times a b) c ≡ (pairs p t u).times a ((pairs p t u).times b c)
  assoc a b c =
      reduced_times (product a b).low (product a b).high c.low c.high ∙
      (pair_eq (ap (λ n. n % p) (low a.low a.high b.low b.high c.low c.high)) (ap (λ n. n % p) (high a.low a.high b.low b.high c.low c.high)) ∙
      (sym (reduced_times (product b c).low (product b c).high a.low a.high) ∙ comm ((pairs p t u).times b c) a))
    where
      low : (a b c d e f : ℕ) → (a * c + t * b * d) * e + t * (a * d + b * c + u * b * d) * f ≡ (c * e + t * d * f) * a + t * (c * f + d * e + u * d * f) * b
      low a b c d e f = omega arith

      high : (a b c d e f : ℕ) → (a * c + t * b * d) * f + (a * d + b * c + u * b * d) * e + u * (a * d + b * c + u * b * d) * f ≡
          (c * e + t * d * f) * b + (c * f + d * e + u * d * f) * a + u * (c * f + d * e + u * d * f) * b
      high a b c d e f = omega arith

  distributes : (a b c : Pair) → (pairs p t u).times a ((pairs p t u).plus b c) ≡ (pairs p t u).plus ((pairs p t u).times a b) ((pairs p t u).times a c)
  distributes a b c =
      comm a ((pairs p t u).plus b c) ∙
      (reduced_times (b.low + c.low) (b.high + c.high) a.low a.high ∙
      pair_eq
      (ap (λ n. n % p) (low a.low a.high b.low b.high c.low c.high) ∙ both (product a b).low (product a c).low)
      (ap (λ n. n % p) (high a.low a.high b.low b.high c.low c.high) ∙ both (product a b).high (product a c).high))
    where
      both : (x y : ℕ) → (x + y) % p ≡ (x % p + y % p) % p
      both x y = sym (mod-add-mod x p y) ∙ sym (add-mod-mod (x % p) y p)

      low : (a b c d e f : ℕ) → (c + e) * a + t * (d + f) * b ≡ (a * c + t * b * d) + (a * e + t * b * f)
      low a b c d e f = omega arith

      high : (a b c d e f : ℕ) → (c + e) * b + (d + f) * a + u * (d + f) * b ≡ (a * d + b * c + u * b * d) + (a * f + b * e + u * b * f)
      high a b c d e f = omega arith

  -- the conjugate divided by the norm
  pub inverse_by : (a b k : ℕ) → b ≤ p → norm p t u a b * k % p ≡ 1 →
      (pairs p t u).times (pair a b) (pair ((a + u * b) * k % p) ((p - b) * k % p)) ≡ pair 1 0
  inverse_by a b k le one =
      comm (pair a b) (pair ((a + u * b) * k % p) ((p - b) * k % p)) ∙
      (reduced_times ((a + u * b) * k) ((p - b) * k) a b ∙
      pair_eq (ap (λ n. n % p) (low (p - b)) ∙ one) (ap (λ n. n % p) (high (p - b) (omega arith)) ∙ mul-mod_left ((a + u * b) * k) p))
    where
      low : (w : ℕ) → (a + u * b) * k * a + t * (w * k) * b ≡ (a * (a + u * b) + t * b * w) * k
      low w = omega arith

      high : (w : ℕ) → w + b ≡ p → (a + u * b) * k * b + w * k * a + u * (w * k) * b ≡ (a + u * b) * k * p
      high w e = (let s : (a + u * b) * k * b + w * k * a + u * (w * k) * b ≡ (a + u * b) * k * (w + b) = omega arith in s) ∙ ap (λ n. (a + u * b) * k * n) e

  inverse : (a : Pair) → (pairs p t u).reduce a ≢ pair 0 0 → (b : Pair) × ((pairs p t u).times a b ≡ pair 1 0)
  inverse a n =
      let small : a.high % p < p = mod-lt a.high positive in
      let k = (residues_field p (square_listed p t u h)).inverse (norm p t u (a.low % p) (a.high % p)) (λ z.
      let zeros = norm_is_zero p t u h (a.low % p) (a.high % p) (mod-lt a.low positive) small z in n (pair_eq zeros.0 zeros.1)) in (
        pair ((a.low % p + u * (a.high % p)) * k.0 % p) ((p - a.high % p) * k.0 % p),
        sym (reduced_times a.low a.high ((a.low % p + u * (a.high % p)) * k.0 % p) ((p - a.high % p) * k.0 % p)) ∙ inverse_by (a.low % p) (a.high % p) k.0 (omega arith) k.1,
      )

  -- the numbers of an element are below p
  pub low_of_value : (a : Pair) → IsValue (pairs p t u) a → a.low < p
  low_of_value a v = subst (λ x. x < p) (ap (λ x. x.low) v) (mod-lt a.low positive)

  pub high_of_value : (a : Pair) → IsValue (pairs p t u) a → a.high < p
  high_of_value a v = subst (λ x. x < p) (ap (λ x. x.high) v) (mod-lt a.high positive)

  word_low : (a b : ℕ) → a < p → b < p → a + p * b < p * p
  word_low a b la lb = let m : p * (b + 1) ≤ p * p = Rattle.std.proofs.Math.Nat.mul-le-mul_left p (let e : b + 1 ≤ p = omega arith in e) in omega arith

  -- the laws
  pub pairs_field : IsField (pairs p t u)
  pairs_field =
      let F = residues_field p (square_listed p t u h) in
      record {
        plus_assoc = λ a b c. pair_eq (F.plus_assoc a.low b.low c.low) (F.plus_assoc a.high b.high c.high);
        plus_comm = λ a b. pair_eq (F.plus_comm a.low b.low) (F.plus_comm a.high b.high);
        plus_zero = λ a. pair_eq (F.plus_zero a.low) (F.plus_zero a.high);
        plus_negate = λ a. pair_eq (F.plus_negate a.low) (F.plus_negate a.high);
        times_assoc = assoc;
        times_comm = comm;
        times_one = λ a. pair_eq
            (ap (λ n. n % p) (let e : a.low * 1 + t * a.high * 0 ≡ a.low = omega arith in e))
            (ap (λ n. n % p) (let e : a.low * 0 + a.high * 1 + u * a.high * 0 ≡ a.high = omega arith in e));
        times_plus = distributes;
        inverse = inverse;
        one_not_zero = λ e. F.one_not_zero (ap (λ a. a.low) e);
        equal_or_not = λ a b. ⊎_elim (λ e. ⊎_elim (λ k. inl (pair_eq e k)) (λ n. inr (λ k. n (ap (λ x. x.high) k))) (F.equal_or_not a.high b.high))
            (λ n. inr (λ k. n (ap (λ x. x.low) k))) (F.equal_or_not a.low b.low);
        zero_value = pair_eq F.zero_value F.zero_value;
        one_value = pair_eq F.one_value F.zero_value;
        plus_value = λ a b. pair_eq (mod-mod _ p) (mod-mod _ p);
        negate_value = λ a. pair_eq (mod-mod _ p) (mod-mod _ p);
        times_value = λ a b. pair_eq (mod-mod _ p) (mod-mod _ p);
        of_word_value = λ w. pair_eq (mod-mod _ p) (mod-eq_of_lt (div_below _ p p positive (mod-lt w (let some : 0 + p * 0 < p * p = word_low 0 0 positive positive in omega arith))));
        word_below = λ a v. word_low a.low a.high (low_of_value a v) (high_of_value a v);
        of_word_word = λ a v.
            let same : (a.low + p * a.high) % (p * p) ≡ a.low + p * a.high = mod-eq_of_lt (word_low a.low a.high (low_of_value a v) (high_of_value a v)) in
            pair_eq (ap (λ n. n % p) same ∙ (add-mul-mod_self_left a.low p a.high ∙ ap (λ x. x.low) v))
            (ap (λ n. n / p) same ∙ (ap (λ n. n / p) (let e : a.low + p * a.high ≡ a.high * p + a.low = omega arith in e) ∙ div-mul-add a.high p a.low (low_of_value a v)));
        word_of_word = λ w l. ap (λ n. n % p + p * (n / p)) (mod-eq_of_lt l) ∙ mod-add-div w p;
        word_zero = let e : 0 + p * 0 ≡ 0 = omega arith in e;
        word_one = let e : 1 + p * 0 ≡ 1 = omega arith in e;
      }
