-- The place of a name, and numbers in names.
use Rattle.std.proofs.Common.{◌≡◌, ◌≢◌, ℕ, zero, suc, ◌+◌, ◌-◌, ◌<◌, ◌≤◌, ◌^◌, true, false, cond, ltb, List, [], ◌∷◌, length, take, drop, get_or, Option, Some, None, Result, Ok, Err, IfSome, IsNone, refl, sym, ap, ◌∙◌, arith, ◌⊎◌, inl, inr, ⊎_elim}
use Rattle.std.specs.Prelude.{slice_get, Contains}
use Rattle.std.specs.Fmt.{decimal}
use Rattle.std.specs.List.{IsDistinct}
use Rattle.std.specs.Result.{OkIff, result_ok}
use Rattle.std.specs.Str.{bytes_eq, IsUtf8}
use Rattle.std.specs.Str.Parse.{digits_value, AllDigits, ParsesUnsigned}
use Rattle.std.proofs.lemmas.Bool.{le-ltb, lt-ltb, ltb-true, ltb-false}
use Rattle.std.proofs.lemmas.Fmt.{decimal-digits_value, digits_decimal, digits_value-decimal, decimal_nonempty, first_decimal, decimal_digit, IsAscii-decimal}
use Rattle.std.proofs.lemmas.List.{take_rest}
use Rattle.std.proofs.lemmas.Str.{IsUtf8-from_ascii}
use Rattle.std.proofs.lemmas.Str.Parse.{parse_plain, digit_at}
use Rattle.poly_core.specs.Names.{name_at}
use Rattle.poly_core.specs.declared.place_names.Names.{Names}
use Rattle.poly_core.specs.declared.place_names.Names.TheVariants.{Numbered, Paired}
use Rattle.polynomial_text.specs.Canonical.{AreDifferent}
use Rattle.polynomial_text.specs.laws.Names.{IsPlaceResult, place_result, place_found, name_is_text, one_index}
use Rattle.polynomial_text.specs.PolyLine.{place_of}
use Rattle.polynomial_text.proofs.LineDigits.{own}

-- ---- the place that a name has

pub place_is : (n : ℕ) (names : Names) (word : List ℕ) (i : ℕ) → AreDifferent n names → i < n → name_at names i ≡ Some word → Some i ≡ place_of names n word
place_is n names word i different lt at = sym (place_found n names different n i word lt (omega arith) at)

pub no_place : (n : ℕ) (names : Names) (word : List ℕ) → ((i : ℕ) → i < n → name_at names i ≡ Some word → ⊥) → None ≡ place_of names n word
no_place n names word never = by (place_of names n word) (place_result names n word)
  where
    by : (r : Option ℕ) → IsPlaceResult names n word r → None ≡ r
    by None h = refl
    by (Some i) h = absurd (never i h.0 h.1)

-- ---- names of a table

pub name_text : (n : ℕ) (names : Names) (word : List ℕ) (i : ℕ) → AreDifferent n names → i < n → name_at names i ≡ Some word → IsUtf8 word
name_text n names word i different lt at = name_is_text word (rw at at (different.form i lt))

pub one_place : (names : List (List ℕ)) (name : List ℕ) (i j : ℕ) → IsDistinct bytes_eq names → slice_get names i ≡ Some name → slice_get names j ≡ Some name → i ≡ j
one_place names name i j d h k = one_index names i j d (rw h refl) (h ∙ sym k)

pub within : (names : List (List ℕ)) (name : List ℕ) (i : ℕ) → slice_get names i ≡ Some name → i < length names
within [] name i e = absurd cc
within (n ∷ names) name zero e = omega arith
within (n ∷ names) name (suc i) e = let h = within names name i e in omega arith

pub contains_place : (names : List (List ℕ)) (name : List ℕ) (i : ℕ) → slice_get names i ≡ Some name → Contains names name
contains_place [] name i e = absurd cc
contains_place (n ∷ names) name zero e = (0, omega arith, let same : n ≡ name = cc in same)
contains_place (n ∷ names) name (suc i) e = let h = contains_place names name i e in (suc h.0, omega (arith, h.1), h.2)

-- ---- numbers

abbrev pub IsPlain : List ℕ → Type 0
IsPlain digits = (get_or digits 0 0 ≢ 43) × (get_or digits 0 0 ≡ 48 → length digits ≡ 1)

pub plain_decimal : (n : ℕ) → n < 2 ^ 64 → IsPlain (decimal n)
plain_decimal n lt = (
  λ e. let d = digit_at (decimal n) 0 (digits_decimal own n lt) (decimal_nonempty n lt) in absurd (omega (arith, d.0, e)),
  λ e. zero_alone n lt e,
)
  where
    zero_alone : (n : ℕ) → n < 2 ^ 64 → get_or (decimal n) 0 0 ≡ 48 → length (decimal n) ≡ 1
    zero_alone zero lt e = ap length (decimal_digit 0 (omega arith))
    zero_alone (suc n) lt e = absurd (omega (arith, first_decimal (suc n) (omega arith) lt))

pub not_plain : (digits : List ℕ) → (IsPlain digits → ⊥) → (n : ℕ) → n < 2 ^ 64 → digits ≡ decimal n → ⊥
not_plain digits never n lt e = never (rw e (plain_decimal n lt))

pub not_text : (digits : List ℕ) → (IsUtf8 digits → ⊥) → (n : ℕ) → n < 2 ^ 64 → digits ≡ decimal n → ⊥
not_text digits never n lt e = never (rw e (IsUtf8-from_ascii (decimal n) (IsAscii-decimal n lt)))

pub parsed_some : {E : Type 0} (digits : List ℕ) (r : Result ℕ E) → IsPlain digits → ParsesUnsigned 64 10 digits r → IfSome (result_ok r) (λ n. (digits ≡ decimal n) × (n < 2 ^ 64))
parsed_some digits r plain h = by_cases digits r plain (parse_plain own 64 digits r h plain.0)
  where
    by_cases : {E : Type 0} (digits : List ℕ) (r : Result ℕ E) → IsPlain digits → OkIff r (AllDigits 10 digits × (0 < length digits) × (digits_value 10 digits < 2 ^ 64)) (digits_value 10 digits) → IfSome (result_ok r) (λ n. (digits ≡ decimal n) × (n < 2 ^ 64))
    by_cases digits (Ok v) plain h =
        let same : decimal (digits_value 10 digits) ≡ digits = decimal-digits_value own digits h.0.0 h.0.1 plain.1 h.0.2 in
        (sym same ∙ ap decimal (sym h.1), omega (arith, h.0.2, h.1))
    by_cases digits (Err e) plain h = tt

pub parsed_none : {E : Type 0} (digits : List ℕ) (r : Result ℕ E) → IsPlain digits → ParsesUnsigned 64 10 digits r → IsNone (result_ok r) → (n : ℕ) → n < 2 ^ 64 → digits ≡ decimal n → ⊥
parsed_none digits r plain h = by_cases digits r plain (parse_plain own 64 digits r h plain.0)
  where
    by_cases : {E : Type 0} (digits : List ℕ) (r : Result ℕ E) → IsPlain digits → OkIff r (AllDigits 10 digits × (0 < length digits) × (digits_value 10 digits < 2 ^ 64)) (digits_value 10 digits) → IsNone (result_ok r) → (n : ℕ) → n < 2 ^ 64 → digits ≡ decimal n → ⊥
    by_cases digits (Ok v) plain h none n lt is = absurd cc
    by_cases digits (Err e) plain h none n lt is =
        h (rw is (digits_decimal own n lt, decimal_nonempty n lt, rw (digits_value-decimal own n lt) lt))

-- the number of a name is that of its place
pub number_past : (word : List ℕ) (prefix skip count n : ℕ) → take (length word - 1) (drop 1 word) ≡ decimal n → n < 2 ^ 64 → count < 2 ^ 64 → (count - skip < n) ⊎ (n ≡ 0) →
    (i : ℕ) → skip ≤ i → i < count → word ≡ prefix ∷ decimal (i + 1 - skip) → ⊥
number_past word prefix skip count n digits small few out i le lt is =
    let tail : decimal n ≡ decimal (i + 1 - skip) = sym digits ∙ take_rest word 1 ∙ ap (drop 1) is in
    let value : n ≡ i + 1 - skip = sym (digits_value-decimal own n small) ∙ ap (digits_value 10) tail ∙ digits_value-decimal own (i + 1 - skip) (omega arith) in
    ⊎_elim (λ past. omega arith) (λ none. omega arith) out

-- ---- names with numbers

numbered_name : (prefix skip i : ℕ) (word : List ℕ) → skip ≤ i → word ≡ prefix ∷ decimal (i + 1 - skip) → name_at (Numbered prefix skip) i ≡ Some word
numbered_name prefix skip i word le is = let not_before : ltb i skip ≡ false = le-ltb _ _ le in rw not_before (ap Some (sym is))

numbered_before : (prefix skip i : ℕ) (word : List ℕ) → name_at (Numbered prefix skip) i ≡ Some word → (skip ≤ i) × (word ≡ prefix ∷ decimal (i + 1 - skip))
numbered_before prefix skip i word at =
    elim (ltb i skip) as (λ t. ltb i skip ≡ t → cond t None (Some (prefix ∷ decimal (i + 1 - skip))) ≡ Some word → (skip ≤ i) × (word ≡ prefix ∷ decimal (i + 1 - skip))) [
      | true ↦ λ t e. absurd cc
      | false ↦ λ t e. (ltb-false _ _ t, cc)
    ] refl at

pub numbered_gives : (n prefix skip : ℕ) (word : List ℕ) (r : Option ℕ) → AreDifferent n (Numbered prefix skip) → IfSome r (λ i. (skip ≤ i) × (i < n)) → IfSome r (λ i. word ≡ prefix ∷ decimal (i + 1 - skip)) →
    (IsNone r → (i : ℕ) → skip ≤ i → i < n → word ≡ prefix ∷ decimal (i + 1 - skip) → ⊥) → r ≡ place_of (Numbered prefix skip) n word
numbered_gives n prefix skip word (Some i) different inside at none = place_is n (Numbered prefix skip) word i different inside.1 (numbered_name prefix skip i word inside.0 at)
numbered_gives n prefix skip word None different inside at none =
    no_place n (Numbered prefix skip) word (λ i lt e. let h = numbered_before prefix skip i word e in none refl i h.0 lt h.1)

first_name : (first count second i : ℕ) (word : List ℕ) → i < count → word ≡ first ∷ decimal (i + 1) → name_at (Paired first count second) i ≡ Some word
first_name first count second i word lt is = let inside : ltb i count ≡ true = lt-ltb _ _ lt in rw inside (ap Some (sym is))

second_name : (first count second i : ℕ) (word : List ℕ) → count ≤ i → word ≡ second ∷ decimal (i + 1 - count) → name_at (Paired first count second) i ≡ Some word
second_name first count second i word le is = let past : ltb i count ≡ false = le-ltb _ _ le in rw past (ap Some (sym is))

paired_name : (first count second i : ℕ) (word : List ℕ) → name_at (Paired first count second) i ≡ Some word → ((i < count) × (word ≡ first ∷ decimal (i + 1))) ⊎ ((count ≤ i) × (word ≡ second ∷ decimal (i + 1 - count)))
paired_name first count second i word at =
    elim (ltb i count) as (λ t. ltb i count ≡ t → cond t (Some (first ∷ decimal (i + 1))) (Some (second ∷ decimal (i + 1 - count))) ≡ Some word → ((i < count) × (word ≡ first ∷ decimal (i + 1))) ⊎ ((count ≤ i) × (word ≡ second ∷ decimal (i + 1 - count)))) [
      | true ↦ λ t e. inl (ltb-true _ _ t, cc)
      | false ↦ λ t e. inr (ltb-false _ _ t, cc)
    ] refl at

pub first_gives : (n first count second : ℕ) (word : List ℕ) (i : ℕ) → AreDifferent n (Paired first count second) → i < n → i < count → word ≡ first ∷ decimal (i + 1 - 0) → Some i ≡ place_of (Paired first count second) n word
first_gives n first count second word i different lt inside at = place_is n (Paired first count second) word i different lt (first_name first count second i word inside (at ∙ ap (λ (k : ℕ). first ∷ decimal k) (omega arith)))

pub second_gives : (n first count second : ℕ) (word : List ℕ) (r : Option ℕ) → AreDifferent n (Paired first count second) →
    ((i : ℕ) → i < n → i < count → word ≡ first ∷ decimal (i + 1 - 0) → ⊥) → IfSome r (λ i. (count ≤ i) × (i < n)) → IfSome r (λ i. word ≡ second ∷ decimal (i + 1 - count)) →
    (IsNone r → (i : ℕ) → count ≤ i → i < n → word ≡ second ∷ decimal (i + 1 - count) → ⊥) → r ≡ place_of (Paired first count second) n word
second_gives n first count second word (Some i) different not_first inside at none = place_is n (Paired first count second) word i different inside.1 (second_name first count second i word inside.0 at)
second_gives n first count second word None different not_first inside at none =
    no_place n (Paired first count second) word (λ i lt e. ⊎_elim (λ h. not_first i lt h.0 (h.1 ∙ ap (λ (k : ℕ). first ∷ decimal k) (omega arith))) (λ h. none refl i h.0 lt h.1) (paired_name first count second i word e))
