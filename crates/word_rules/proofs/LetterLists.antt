-- The letters of words, in a list.
use Rattle.std.proofs.Common.{◌≡◌, ◌≢◌, ℕ, zero, suc, ◌+◌, refl, subst, List, [], ◌∷◌, arith, ⊎_elim}
use Rattle.std.specs.Prelude.{Contains, map, ◌↔◌}
use Rattle.monomial_order.specs.Monomial.{Exponents, exponent}
use Rattle.monomial_order.specs.laws.Lists.{contains_cases, contains_here, contains_none, contains_there, map_contains}
use Rattle.word_rules.specs.declared.factor.Factor.{Factor}
use Rattle.word_rules.specs.Factors.{factors_from, factors_of}

abbrev pub letters_in : List Factor → List ℕ
letters_in factors = map (λ f. f.letter) factors

-- exactly the letters of the word are listed
abbrev pub AreLettersOf : Exponents → List ℕ → Type 0
AreLettersOf w letters = (a : ℕ) → Contains letters a ↔ (exponent w a ≢ 0)

has_letter : (k : ℕ) (w : Exponents) (p a : ℕ) → a ≡ k + p → exponent w p ≢ 0 → Contains (letters_in (factors_from k w)) a
has_letter k [] p a e h = absurd (h refl)
has_letter k (zero ∷ w) zero a e h = absurd (h refl)
has_letter k (zero ∷ w) (suc p) a e h = has_letter (suc k) w p a (omega (arith, e)) h
has_letter k (suc x ∷ w) zero a e h = subst (Contains (k ∷ letters_in (factors_from (suc k) w))) (let q : k ≡ a = omega (arith, e) in q) (contains_here k (letters_in (factors_from (suc k) w)))
has_letter k (suc x ∷ w) (suc p) a e h = contains_there k (letters_in (factors_from (suc k) w)) a (has_letter (suc k) w p a (omega (arith, e)) h)

is_letter : (k : ℕ) (w : Exponents) (a : ℕ) → Contains (letters_in (factors_from k w)) a → (p : ℕ) × (a ≡ k + p) × (exponent w p ≢ 0)
is_letter k [] a h = absurd (contains_none a h)
is_letter k (zero ∷ w) a h = let r = is_letter (suc k) w a h in let e = r.1 in (suc r.0, omega (arith, e), r.2)
is_letter k (suc x ∷ w) a h =
    ⊎_elim (λ q. (zero, omega (arith, q), λ z. omega arith))
    (λ c. let r = is_letter (suc k) w a c in let e = r.1 in (suc r.0, omega (arith, e), r.2))
    (contains_cases k (letters_in (factors_from (suc k) w)) a h)

pub letters_are : (w : Exponents) → AreLettersOf w (letters_in (factors_of w))
letters_are w a = (
  λ c. let r = is_letter 0 w a c in subst (λ p. exponent w p ≢ 0) (let e = r.1 in let q : r.0 ≡ a = omega (arith, e) in q) r.2,
  λ h. has_letter 0 w a a (omega arith) h,
)

-- a letter of the word is one of its factors
pub factor_of : (w : Exponents) (a : ℕ) → exponent w a ≢ 0 → (f : Factor) × Contains (factors_of w) f × (f.letter ≡ a)
factor_of w a h = map_contains (λ f. f.letter) (factors_of w) a ((letters_are w a).1 h)
