-- Fronts and parts of bytes by classes of bytes, and written numbers.
use Rattle.std.proofs.Common.{◌≡◌, ℕ, ◌<◌, ◌≤◌, ◌^◌, Bool, true, false, ◌==◌, List, [], ◌∷◌, ◌++◌, length, Ok, refl, arith, rules, le-leb}
use Rattle.std.specs.List.{list_all, AllByRecursion}
use Rattle.std.specs.Str.Parse.{digits_value}
use Rattle.std.specs.Fmt.{decimal}
use Rattle.std.proofs.lemmas.Bool.{and_parts, and_from}
use Rattle.std.proofs.lemmas.Bool.Decides.{nat_tests}
use Rattle.std.proofs.lemmas.Str.Parse.{IsNumeralModel, numerals_by_value}
use Rattle.std.proofs.lemmas.Fmt.{digits_decimal, digits_value-decimal, decimal_nonempty, length-decimal-le}
use Rattle.poly_core.specs.Names.{is_letter, is_name_byte}
use Rattle.polynomial_text.specs.Bytes.{digits_max, is_blank, is_digit, is_sign, front, behind, Stops}
use Rattle.polynomial_text.specs.Grammar.{IsNumber}
use Rattle.polynomial_text.specs.PolyLine.{number_at, signed_parts}

-- ---- tests along lists

pub all_append : (p : ℕ → Bool) (xs ys : List ℕ) → list_all p xs ≡ true → list_all p ys ≡ true → list_all p (xs ++ ys) ≡ true
all_append p [] ys h k = k
all_append p (x ∷ xs) ys h k = let a = and_parts (p x) (list_all p xs) h in and_from (p x) (list_all p (xs ++ ys)) a.0 (all_append p xs ys a.1 k)

-- no member passes p
abbrev pub Lack : (ℕ → Bool) → List ℕ → Type 0
Lack p xs = AllByRecursion (λ b. p b ≡ false) xs

pub lack_from : (p q : ℕ → Bool) → ((b : ℕ) → p b ≡ true → q b ≡ false) → (xs : List ℕ) → list_all p xs ≡ true → Lack q xs
lack_from p q f [] h = tt
lack_from p q f (x ∷ xs) h = let a = and_parts (p x) (list_all p xs) h in (f x a.0, lack_from p q f xs a.1)

pub each_weaker : {A : Type 0} (P Q : A → Type 0) → ((x : A) → P x → Q x) → (xs : List A) → AllByRecursion P xs → AllByRecursion Q xs
each_weaker P Q f [] h = tt
each_weaker P Q f (x ∷ xs) h = (f x h.0, each_weaker P Q f xs h.1)

pub each_append : {A : Type 0} (P : A → Type 0) (xs ys : List A) → AllByRecursion P xs → AllByRecursion P ys → AllByRecursion P (xs ++ ys)
each_append P [] ys h k = k
each_append P (x ∷ xs) ys h k = (h.0, each_append P xs ys h.1 k)

pub lack_append : (q : ℕ → Bool) (xs ys : List ℕ) → Lack q xs → Lack q ys → Lack q (xs ++ ys)
lack_append q = each_append (λ b. q b ≡ false)

-- the list has a first member, and it passes
abbrev pub Begins : (ℕ → Bool) → List ℕ → Type 0
Begins p [] = ⊥
Begins p (b ∷ bytes) = p b ≡ true

pub begins_append : (p : ℕ → Bool) (xs ys : List ℕ) → Begins p xs → Begins p (xs ++ ys)
begins_append p [] ys h = absurd h
begins_append p (x ∷ xs) ys h = h

pub stops_from : (p q : ℕ → Bool) → ((b : ℕ) → p b ≡ true → q b ≡ false) → (xs : List ℕ) → list_all p xs ≡ true → Stops q xs
stops_from p q f [] h = tt
stops_from p q f (x ∷ xs) h = f x (and_parts (p x) (list_all p xs) h).0

pub begins_stops : (p q : ℕ → Bool) → ((b : ℕ) → p b ≡ true → q b ≡ false) → (xs : List ℕ) → Begins p xs → Stops q xs
begins_stops p q f [] h = absurd h
begins_stops p q f (x ∷ xs) h = f x h

pub front_all : (p : ℕ → Bool) (xs ys : List ℕ) → list_all p xs ≡ true → Stops p ys → front p (xs ++ ys) ≡ xs
unfolding front
front_all p [] [] h k = refl
front_all p [] (y ∷ ys) h k = rw k refl
front_all p (x ∷ xs) ys h k = let a = and_parts (p x) (list_all p xs) h in rw (a.0, front_all p xs ys a.1 k) refl

pub behind_all : (p : ℕ → Bool) (xs ys : List ℕ) → list_all p xs ≡ true → Stops p ys → behind p (xs ++ ys) ≡ ys
unfolding behind
behind_all p [] [] h k = refl
behind_all p [] (y ∷ ys) h k = rw k refl
behind_all p (x ∷ xs) ys h k = let a = and_parts (p x) (list_all p xs) h in rw a.0 (behind_all p xs ys a.1 k)

pub behind_blanks : (bs : List ℕ) → list_all is_blank bs ≡ true → behind is_blank bs ≡ []
unfolding behind
behind_blanks [] h = refl
behind_blanks (b ∷ bs) h = let a = and_parts (is_blank b) (list_all is_blank bs) h in rw a.0 (behind_blanks bs a.1)

-- ---- the bytes of canonical texts

pub digit_in_name : (b : ℕ) → is_digit b ≡ true → is_name_byte b ≡ true
digit_in_name b h = grind (arith, nat_tests)

-- a byte that passes is none that fails
pub differs : (p : ℕ → Bool) (c : ℕ) → p c ≡ false → (b : ℕ) → p b ≡ true → (b == c) ≡ false
differs p c out b h = grind (arith, nat_tests)

pub name_no_blank : (b : ℕ) → is_name_byte b ≡ true → is_blank b ≡ false
name_no_blank b h = rw (differs is_name_byte 32 refl b h, differs is_name_byte 9 refl b h, differs is_name_byte 13 refl b h) refl

pub blank_no_sign : (b : ℕ) → is_blank b ≡ true → is_sign b ≡ false
blank_no_sign b h = rw (differs is_blank 43 refl b h, differs is_blank 45 refl b h) refl

pub blank_no_star : (b : ℕ) → is_blank b ≡ true → (b == 42) ≡ false
blank_no_star = differs is_blank 42 refl

pub blank_no_name : (b : ℕ) → is_blank b ≡ true → is_name_byte b ≡ false
blank_no_name b h = grind (arith, nat_tests)

pub blank_no_digit : (b : ℕ) → is_blank b ≡ true → is_digit b ≡ false
blank_no_digit b h = grind (arith, nat_tests)

pub letter_no_digit : (b : ℕ) → is_letter b ≡ true → is_digit b ≡ false
letter_no_digit b h = grind (arith, nat_tests)

-- ---- numbers

own : IsNumeralModel (λ ds. list_all is_digit ds ≡ true) (digits_value 10)
own = numerals_by_value (λ ds. list_all is_digit ds ≡ true) (search rules)

pub number_digits : (ds back : List ℕ) → list_all is_digit ds ≡ true → 0 < length ds → length ds ≤ digits_max → Stops is_digit back → number_at (ds ++ back) ≡ Ok (digits_value 10 ds, back)
unfolding number_at
number_digits [] back h some few stop = absurd (omega arith)
number_digits (d ∷ ds) back h some few stop =
    let short = le-leb (length (d ∷ ds)) digits_max few in
    rw (front_all is_digit (d ∷ ds) back h stop, behind_all is_digit (d ∷ ds) back h stop, short) refl

-- numbers that are written
abbrev pub IsWritten : ℕ → Type 0
IsWritten n = n < 2 ^ 32

pub decimal_digits : (n : ℕ) → n < 2 ^ 64 → list_all is_digit (decimal n) ≡ true
decimal_digits = digits_decimal own

-- a number as it is written
pub written_number : (n : ℕ) → IsWritten n → IsNumber (decimal n) n
written_number n h =
    let short : length (decimal n) ≤ 10 = length-decimal-le 10 n (omega arith) (omega arith) (omega arith) in
    record { digits = decimal_digits n (omega arith); some = decimal_nonempty n (omega arith); few = omega arith; value = digits_value-decimal own n (omega arith) }

-- ---- parts at signs

abbrev pub is_star : ℕ → Bool
is_star b = b == 42

pub parts_none : (minus : Bool) (w : List ℕ) → Lack is_sign w → signed_parts minus w ≡ (minus, w) ∷ []
unfolding signed_parts
parts_none minus [] h = refl
parts_none minus (b ∷ w) h = rw (h.0, parts_none minus w h.1) refl

pub parts_signed : (minus : Bool) (w rest : List ℕ) (b : ℕ) → is_sign b ≡ true → Lack is_sign w → signed_parts minus (w ++ b ∷ rest) ≡ (minus, w) ∷ signed_parts (b == 45) rest
unfolding signed_parts
parts_signed minus [] rest b sign h = rw sign refl
parts_signed minus (c ∷ w) rest b sign h = rw (h.0, parts_signed minus w rest b sign h.1) refl
