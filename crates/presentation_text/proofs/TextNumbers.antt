-- Decimal numbers as tokens.
use Rattle.std.proofs.Common.{◌≡◌, ℕ, ◌<◌, ◌≤◌, true, leb, ◌&&◌, List, [], ◌∷◌, ◌++◌, length, map, Some, refl, arith}
use Rattle.std.specs.List.{AllByRecursion, list_all}
use Rattle.std.specs.Fmt.{decimal}
use Rattle.std.proofs.lemmas.Bool.{and_parts, le-leb, leb-true}
use Rattle.monomial_order.specs.Ranges.{all_between}
use Rattle.polynomial_text.specs.Bytes.{digits_max, is_digit}
use Rattle.polynomial_text.specs.laws.CanonicalParts.{written_number}
use Rattle.presentation_text.specs.Numbers.{number_of, number_within}
use Rattle.presentation_text.specs.Heading.{number_first, numbers_first}
use Rattle.presentation_text.proofs.TextTokens.{IsToken, not_equal}

pub decimal_number : (n : ℕ) → n < 100000 → number_of (decimal n) ≡ Some n
unfolding number_of
decimal_number n l =
    let w = written_number n (omega arith) in
    rw (le-leb 1 (length (decimal n)) w.some, le-leb (length (decimal n)) digits_max w.few, w.digits, w.value) refl

pub decimal_within : (low high n : ℕ) → n < 100000 → (leb low n && leb n high) ≡ true → number_within low high (decimal n) ≡ Some n
unfolding number_within
decimal_within low high n l h = rw (decimal_number n l, h) refl

digits_visible : (ds : List ℕ) → list_all is_digit ds ≡ true → AllByRecursion (λ b. 33 ≤ b) ds
digits_visible [] h = tt
digits_visible (d ∷ ds) h =
    let p = and_parts (is_digit d) (list_all is_digit ds) h in
    let low : 48 ≤ d = leb-true 48 d (and_parts (leb 48 d) (leb d 57) p.0).0 in
    (omega arith, digits_visible ds p.1)

pub decimal_token : (n : ℕ) → n < 100000 → IsToken (decimal n)
decimal_token n l =
    let w = written_number n (omega arith) in
    record { some = not_equal (length (decimal n)) 0 w.some; visible = digits_visible (decimal n) w.digits }

-- numbers in a range are taken of their decimals
pub between_first : (low high : ℕ) (ns : List ℕ) (rest : List (List ℕ)) → high < 100000 → all_between low high ns ≡ true → numbers_first low high (length ns) (map decimal ns ++ rest) ≡ Some (ns, rest)
unfolding numbers_first number_first
between_first low high [] rest l h = refl
between_first low high (n ∷ ns) rest l h =
    let p = and_parts (leb low n && leb n high) (all_between low high ns) h in
    let most : n ≤ high = leb-true n high (and_parts (leb low n) (leb n high) p.0).1 in
    rw (decimal_within low high n (omega arith) p.0, between_first low high ns rest l p.1) refl

pub between_tokens : (low high : ℕ) (ns : List ℕ) → high < 100000 → all_between low high ns ≡ true → AllByRecursion IsToken (map decimal ns)
between_tokens low high [] l h = tt
between_tokens low high (n ∷ ns) l h =
    let p = and_parts (leb low n && leb n high) (all_between low high ns) h in
    let most : n ≤ high = leb-true n high (and_parts (leb low n) (leb n high) p.0).1 in
    (decimal_token n (omega arith), between_tokens low high ns l p.1)
