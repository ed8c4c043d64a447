-- Numbers of at most digits_max digits.
use Rattle.std.proofs.Common.{◌≡◌, ℕ, zero, suc, ◌+◌, ◌-◌, ◌*◌, ◌<◌, ◌≤◌, true, List, [], ◌∷◌, length, take, get_or, arith}
use Rattle.std.specs.List.{list_all}
use Rattle.std.specs.Char.{digit_value}
use Rattle.std.specs.Str.Parse.{digits_value, AllDigits}
use Rattle.std.proofs.lemmas.Bool.{and_parts}
use Rattle.std.proofs.lemmas.Bool.Decides.{nat_tests}
use Rattle.std.proofs.lemmas.Int.Digits.{digits_value_more}
use Rattle.std.proofs.lemmas.List.{length-take}
use Rattle.std.proofs.lemmas.Str.{digit_value_digit}
use Rattle.std.proofs.lemmas.Str.Parse.{IsNumeralModel, numerals_by_value, tells_digits, digits_value_short, digit_at}
use Rattle.polynomial_text.specs.Bytes.{digits_max, is_digit}

pub own : IsNumeralModel (AllDigits 10) (digits_value 10)
own = numerals_by_value (AllDigits 10) tells_digits

digit_low : (c : ℕ) → is_digit c ≡ true → digit_value c < 10
digit_low c e = grind (arith, nat_tests)

-- digits by the test are digits of std
pub are_digits : (ds : List ℕ) → list_all is_digit ds ≡ true → AllDigits 10 ds
are_digits [] e = tt
are_digits (d ∷ ds) e = let h = and_parts (is_digit d) (list_all is_digit ds) e in (digit_low d h.0, are_digits ds h.1)

digits_take : (ds : List ℕ) (i : ℕ) → AllDigits 10 ds → AllDigits 10 (take i ds)
digits_take ds zero all = tt
digits_take [] (suc i) all = tt
digits_take (d ∷ ds) (suc i) all = (all.0, digits_take ds i all.1)

pub value_room : (ds : List ℕ) (i : ℕ) → list_all is_digit ds ≡ true → length ds ≤ digits_max → i < length ds → digits_value 10 (take i ds) < 100000000000000000
value_room ds i e short lt = digits_value_short own (take i ds) 17 (digits_take ds i (are_digits ds e)) (omega (arith, length-take i ds))

-- one more digit
pub value_next : (ds : List ℕ) (i : ℕ) → list_all is_digit ds ≡ true → i < length ds → digits_value 10 (take i ds) * 10 + (get_or ds i 0 - 48) ≡ digits_value 10 (take (i + 1) ds)
value_next ds i e lt =
    let digit = digit_at ds i (are_digits ds e) lt in
    let is = digit_value_digit (get_or ds i 0) digit in
    omega (arith, digits_value_more 10 ds i lt, is)
