-- What is behind a front, and the parts of a line.
use Rattle.std.proofs.Common.{◌≡◌, ℕ, ◌-◌, ◌<◌, ◌≤◌, Bool, true, false, not, cond, eqb, List, [], ◌∷◌, length, take, drop, get_or, refl, sym, ap, arith}
use Rattle.std.specs.List.{list_all, slice_split, onto_first}
use Rattle.std.proofs.lemmas.List.{take_rest}
use Rattle.polynomial_text.specs.Bytes.{is_blank, is_sign, front, behind, Stops}
use Rattle.polynomial_text.specs.PolyLine.{signed_parts, behind_sign}

pub nothing_left : (bytes : List ℕ) → length bytes < 1 → bytes ≡ []
nothing_left [] h = refl
nothing_left (b ∷ bytes) h = absurd (omega arith)

pub first_and_rest : (bytes : List ℕ) → 1 ≤ length bytes → bytes ≡ get_or bytes 0 0 ∷ take (length bytes - 1) (drop 1 bytes)
first_and_rest [] h = absurd (omega arith)
first_and_rest (b ∷ bytes) h = ap (λ (r : List ℕ). b ∷ r) (sym (take_rest (b ∷ bytes) 1))

pub behind_stops : (p : ℕ → Bool) (bytes : List ℕ) → Stops p (behind p bytes)
unfolding behind
behind_stops p [] = tt
behind_stops p (b ∷ bytes) =
    elim (p b) as (λ t. p b ≡ t → Stops p (cond t (behind p bytes) (b ∷ bytes))) [ true ↦ λ e. behind_stops p bytes | false ↦ λ e. e ] refl

-- the parts behind the separator that the bytes begin with
abbrev pub parts_behind : (ℕ → Bool) → List ℕ → List (List ℕ)
parts_behind p [] = []
parts_behind p (b ∷ bytes) = slice_split p bytes

-- the part before the first separator, and the others
pub parts_split : (p : ℕ → Bool) (text : List ℕ) → slice_split p text ≡ front (λ b. not (p b)) text ∷ parts_behind p (behind (λ b. not (p b)) text)
unfolding front behind
parts_split p [] = refl
parts_split p (b ∷ text) =
    elim (p b) as (λ t. cond t ([] ∷ slice_split p text) (onto_first b (slice_split p text))
    ≡ cond (not t) (b ∷ front (λ b. not (p b)) text) [] ∷ parts_behind p (cond (not t) (behind (λ b. not (p b)) text) (b ∷ text))) [
      | true ↦ refl
      | false ↦ rw (parts_split p text) refl
    ]

-- the parts behind the sign that the bytes begin with
abbrev pub terms_behind : List ℕ → List (Bool × List ℕ)
terms_behind [] = []
terms_behind (b ∷ bytes) = signed_parts (eqb b 45) bytes

pub terms_split : (minus : Bool) (text : List ℕ) → signed_parts minus text ≡ (minus, front (λ b. not (is_sign b)) text) ∷ terms_behind (behind (λ b. not (is_sign b)) text)
unfolding signed_parts front behind
terms_split minus [] = refl
terms_split minus (b ∷ text) = by_test (is_sign b) refl (terms_split minus text)
  where
    by_test : (t : Bool) → is_sign b ≡ t → signed_parts minus text ≡ (minus, front (λ b. not (is_sign b)) text) ∷ terms_behind (behind (λ b. not (is_sign b)) text) →
        signed_parts minus (b ∷ text) ≡ (minus, front (λ b. not (is_sign b)) (b ∷ text)) ∷ terms_behind (behind (λ b. not (is_sign b)) (b ∷ text))
    by_test true e rest = rw e refl
    by_test false e rest = rw (e, rest) refl

pub sign_left_out : (line front text : List ℕ) (minus : Bool) → signed_parts false line ≡ (false, front) ∷ signed_parts minus text → list_all is_blank front ≡ true → behind_sign (signed_parts false line) ≡ signed_parts minus text
sign_left_out line front text minus h blank = rw (h, terms_split minus text, blank) refl

pub no_sign : (line front text : List ℕ) (minus : Bool) → signed_parts false line ≡ (false, front) ∷ signed_parts minus text → list_all is_blank front ≡ false → behind_sign (signed_parts false line) ≡ signed_parts false line
no_sign line front text minus h blank = rw (h, terms_split minus text, blank) refl

-- the front passes
pub front_passes : (test : ℕ → Bool) (bytes : List ℕ) → list_all test (front test bytes) ≡ true
unfolding front
front_passes test [] = refl
front_passes test (b ∷ bytes) =
    elim (test b) as (λ t. test b ≡ t → list_all test (cond t (b ∷ front test bytes) []) ≡ true) [
      | true ↦ λ e. rw e (front_passes test bytes)
      | false ↦ λ e. refl
    ] refl
