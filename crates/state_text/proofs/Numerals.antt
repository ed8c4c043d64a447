-- Numbers of at most 18 digits and their decimals.
use Rattle.std.proofs.Common.{◌≡◌, ℕ, zero, suc, ◌<◌, ◌≤◌, true, List, [], ◌∷◌, ◌++◌, length, get_or, Option, Some, None, IfSome, IsNone, refl, sym, ap, ◌∙◌, rules, arith}
use Rattle.std.specs.Fmt.{decimal}
use Rattle.std.specs.List.{list_all}
use Rattle.std.specs.Str.Parse.{digits_value}
use Rattle.std.proofs.lemmas.Fmt.{decimal-digits_value, digits_decimal, digits_value-decimal, decimal_nonempty, first_decimal, decimal_digit, length-decimal-le}
use Rattle.std.proofs.lemmas.List.{append_cancel_left}
use Rattle.std.proofs.lemmas.Str.Parse.{IsNumeralModel, numerals_by_value, digits_value_short}
use Rattle.polynomial_text.specs.Bytes.{digits_max, is_digit}
use Rattle.state_text.specs.Limits.{count_max}
use Rattle.state_text.specs.LineReadings.{IsCountReading}

own : IsNumeralModel (λ ds. list_all is_digit ds ≡ true) (digits_value 10)
own = numerals_by_value (λ ds. list_all is_digit ds ≡ true) (search rules)

-- so many digits are a number below count_max, and its decimal if no zero leads them
pub digits_below : (ds : List ℕ) → list_all is_digit ds ≡ true → length ds ≤ digits_max → digits_value 10 ds < count_max
digits_below ds h few = digits_value_short own ds 18 h few

pub digits_are : (ds : List ℕ) → list_all is_digit ds ≡ true → 1 ≤ length ds → length ds ≤ digits_max → (get_or ds 0 0 ≡ 48 → length ds ≡ 1) → ds ≡ decimal (digits_value 10 ds)
digits_are ds h some few plain = let low = digits_below ds h few in sym (decimal-digits_value own ds h (omega arith) plain (omega arith))

-- the decimal of such a number has so many digits, and no zero leads them
pub count_digits : (n : ℕ) → n < count_max → list_all is_digit (decimal n) ≡ true
count_digits n lt = digits_decimal own n (omega arith)

pub count_some : (n : ℕ) → n < count_max → 1 ≤ length (decimal n)
count_some n lt = let some = decimal_nonempty n (omega arith) in omega arith

pub count_few : (n : ℕ) → n < count_max → length (decimal n) ≤ digits_max
count_few n lt = length-decimal-le 18 n (omega arith) lt (omega arith)

pub count_plain : (n : ℕ) → n < count_max → get_or (decimal n) 0 0 ≡ 48 → length (decimal n) ≡ 1
count_plain zero lt e = ap length (decimal_digit 0 (omega arith))
count_plain (suc n) lt e = absurd (omega (arith, first_decimal (suc n) (omega arith) (omega arith), e))

-- a number behind the key is one behind what the line begins with
pub behind_key : (key line digits : List ℕ) → line ≡ key ++ digits → (r : Option ℕ) →
    IfSome r (λ n. n < count_max) → IfSome r (λ n. digits ≡ decimal n) → (IsNone r → (n : ℕ) → n < count_max → digits ≡ decimal n → ⊥) →
    IsCountReading key line r
behind_key key line digits is None low here none = λ n lt e. none refl n lt (append_cancel_left key digits (decimal n) (sym is ∙ e))
behind_key key line digits is (Some n) low here none = (low, is ∙ ap (λ ds. key ++ ds) here)
