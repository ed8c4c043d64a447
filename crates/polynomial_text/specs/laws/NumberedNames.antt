-- Names with numbers are different.
use Rattle.std.proofs.Common.{◌≡◌, ℕ, ◌+◌, ◌-◌, ◌<◌, ◌≤◌, ◌^◌, Bool, true, false, cond, ltb, List, [], ◌∷◌, Option, Some, None, refl, sym, arith}
use Rattle.std.specs.Prelude.{◌≢◌, IfSome, IsSome}
use Rattle.std.specs.Fmt.{decimal}
use Rattle.std.specs.List.{list_all}
use Rattle.std.proofs.lemmas.Bool.{and_parts, and_from, ltb-false}
use Rattle.std.proofs.lemmas.Fmt.{decimal_injective}
use Rattle.poly_core.specs.Names.{name_at, is_letter, is_name_byte, has_name_form}
use Rattle.poly_core.specs.declared.place_names.Names.TheVariants.{Numbered, Paired}
use Rattle.polynomial_text.specs.Bytes.{is_digit}
use Rattle.polynomial_text.specs.Canonical.{AreDifferent}
use Rattle.polynomial_text.specs.laws.CanonicalParts.{digit_in_name, decimal_digits}

digits_in_name : (digits : List ℕ) → list_all is_digit digits ≡ true → list_all is_name_byte digits ≡ true
digits_in_name [] h = refl
digits_in_name (d ∷ digits) h =
    let a = and_parts (is_digit d) (list_all is_digit digits) h in
    and_from (is_name_byte d) (list_all is_name_byte digits) (digit_in_name d a.0) (digits_in_name digits a.1)

module _ (prefix : ℕ) (letter : is_letter prefix ≡ true) where
  numbered_form : (n : ℕ) → n < 2 ^ 64 → has_name_form (prefix ∷ decimal n) ≡ true
  numbered_form n lt = and_from (is_letter prefix) (list_all is_name_byte (decimal n)) letter (digits_in_name (decimal n) (decimal_digits n lt))

same_number : (a b m n : ℕ) → m < 2 ^ 64 → n < 2 ^ 64 → Some (a ∷ decimal m) ≡ Some (b ∷ decimal n) → (a ≡ b) × (m ≡ n)
same_number a b m n lt gt e =
    let tail : decimal m ≡ decimal n = cc in
    let head : a ≡ b = cc in
    (head, decimal_injective m n lt gt tail)

-- numbered names are different, for as many places as a machine word counts
pub numbered_differ : (places prefix skip : ℕ) → is_letter prefix ≡ true → places < 2 ^ 64 → AreDifferent places (Numbered prefix skip)
numbered_differ places prefix skip letter few = record { form = λ i lt. form i lt (ltb i skip); differ = λ i j lt gt some e. differ i j lt gt (ltb i skip) (ltb j skip) refl refl some e }
  where
    form : (i : ℕ) → i < places → (b : Bool) → IfSome (cond b None (Some (prefix ∷ decimal (i + 1 - skip)))) (λ word. has_name_form word ≡ true)
    form i lt true = tt
    form i lt false = numbered_form prefix letter (i + 1 - skip) (omega arith)

    differ : (i j : ℕ) → i < places → j < places → (a b : Bool) → ltb i skip ≡ a → ltb j skip ≡ b → IsSome (cond a None (Some (prefix ∷ decimal (i + 1 - skip)))) →
        cond a None (Some (prefix ∷ decimal (i + 1 - skip))) ≡ cond b None (Some (prefix ∷ decimal (j + 1 - skip))) → i ≡ j
    differ i j lt gt true b s t some e = absurd cc
    differ i j lt gt false true s t some e = absurd cc
    differ i j lt gt false false s t some e =
        let same = same_number prefix prefix (i + 1 - skip) (j + 1 - skip) (omega arith) (omega arith) e in
        omega (arith, same.1, ltb-false i skip s, ltb-false j skip t)

-- so are paired ones of two letters
pub paired_differ : (places first count second : ℕ) → is_letter first ≡ true → is_letter second ≡ true → first ≢ second → places < 2 ^ 64 → AreDifferent places (Paired first count second)
paired_differ places first count second one two apart few = record { form = λ i lt. form i lt (ltb i count); differ = λ i j lt gt some e. differ i j lt gt (ltb i count) (ltb j count) refl refl e }
  where
    form : (i : ℕ) → i < places → (b : Bool) → IfSome (cond b (Some (first ∷ decimal (i + 1))) (Some (second ∷ decimal (i + 1 - count)))) (λ word. has_name_form word ≡ true)
    form i lt true = numbered_form first one (i + 1) (omega arith)
    form i lt false = numbered_form second two (i + 1 - count) (omega arith)

    differ : (i j : ℕ) → i < places → j < places → (a b : Bool) → ltb i count ≡ a → ltb j count ≡ b →
        cond a (Some (first ∷ decimal (i + 1))) (Some (second ∷ decimal (i + 1 - count))) ≡ cond b (Some (first ∷ decimal (j + 1))) (Some (second ∷ decimal (j + 1 - count))) → i ≡ j
    differ i j lt gt true true s t e = let same = same_number first first (i + 1) (j + 1) (omega arith) (omega arith) e in omega (arith, same.1)
    differ i j lt gt true false s t e = absurd (apart (same_number first second (i + 1) (j + 1 - count) (omega arith) (omega arith) e).0)
    differ i j lt gt false true s t e = absurd (apart (sym (same_number second first (i + 1 - count) (j + 1) (omega arith) (omega arith) e).0))
    differ i j lt gt false false s t e =
        let same = same_number second second (i + 1 - count) (j + 1 - count) (omega arith) (omega arith) e in
        omega (arith, same.1, ltb-false i count s, ltb-false j count t)
