-- Numbers that are read.
use Rattle.std.proofs.Common.{◌≡◌, ℕ, ◌<◌, ◌≤◌, ◌^◌, List, [], ◌∷◌, length, get_or, Result, Ok, sym, ap, subst, ◌∙◌, arith}
use Rattle.std.specs.Str.Parse.{digits_value, AllDigits, ParsesUnsigned}
use Rattle.std.specs.Fmt.{decimal}
use Rattle.std.proofs.lemmas.Str.Parse.{IsNumeralModel, numerals_by_value, tells_digits, parse_plain, digit_at}
use Rattle.std.proofs.lemmas.Fmt.{parse-decimal, decimal-digits_value, digits_decimal, decimal_nonempty, first_decimal}
use Rattle.sagbi_cli.specs.Command.{BeginsWithDigit, IsUpTo}

own : IsNumeralModel (AllDigits 10) (digits_value 10)
own = numerals_by_value (AllDigits 10) tells_digits

begins : (word : List ℕ) → 0 < length word → 49 ≤ get_or word 0 0 → get_or word 0 0 ≤ 57 → BeginsWithDigit word
begins [] some low high = absurd (omega arith)
begins (b ∷ bytes) some low high = (low, high)

first_of : (word : List ℕ) → BeginsWithDigit word → 49 ≤ get_or word 0 0
first_of [] h = absurd h
first_of (b ∷ bytes) h = h.0

-- the decimal of a number from 1 on begins with a digit from 1 on
pub decimal_begins : (word : List ℕ) (most n : ℕ) → most ≤ 15000 → IsUpTo most n → word ≡ decimal n → BeginsWithDigit word
decimal_begins word most n small_most bound is =
    let small : n < 2 ^ 64 = omega arith in
    let some : 0 < length (decimal n) = decimal_nonempty n small in
    let digit = digit_at (decimal n) 0 (digits_decimal own n small) some in
    let low : 48 < get_or (decimal n) 0 0 = first_decimal n (omega arith) small in
    subst BeginsWithDigit (sym is) (begins (decimal n) some (omega arith) (omega (arith, digit.1)))

-- the decimal of a number is read as the number
pub decimal_read : {E : Type 0} (word : List ℕ) (r : Result ℕ E) (most n : ℕ) → most ≤ 15000 → ParsesUnsigned 32 10 word r → IsUpTo most n → word ≡ decimal n → r ≡ Ok n
decimal_read word r most n small parses bound is = parse-decimal 32 n word r (omega arith) (omega arith) is parses

-- what is read of a word that begins so has that word as its decimal
pub read_decimal : (E : Type 0) (word : List ℕ) (n : ℕ) → BeginsWithDigit word → ParsesUnsigned {E = E} 32 10 word (Ok n) → word ≡ decimal n
read_decimal E word n h parses =
    let low : 49 ≤ get_or word 0 0 = first_of word h in
    let p = parse_plain own {E = E} 32 word (Ok n) parses (λ e. absurd (omega arith)) in
    sym (decimal-digits_value own word p.0.0 p.0.1 (λ e. absurd (omega arith)) (omega (arith, p.0.2))) ∙ ap decimal (sym p.1)
