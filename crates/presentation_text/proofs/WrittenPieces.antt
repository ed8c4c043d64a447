-- Pieces that are written one after the other.
use Rattle.std.proofs.Common.{◌≡◌, ℕ, zero, suc, ◌+◌, ◌<◌, List, [], ◌∷◌, ◌++◌, map, length, get_or, drop, slice_get, Some, sym, ap, ◌∙◌, append_assoc, add-one, drop-cons, flat_map}
use Rattle.std.specs.Fmt.{decimal}
use Rattle.std.proofs.lemmas.List.Concat.{flat_map-append}
use Rattle.presentation_text.specs.PresentationText.{row_tokens}

-- G writes a list member by member
module _ {X A : Type 0} (G : List X → List A) (f : X → List A) (nil : G [] ≡ []) (cons : (x : X) (xs : List X) → G (x ∷ xs) ≡ f x ++ G xs) where
  pub piece_next : (xs : List X) (i : ℕ) (x : X) (out next whole : List A) → i < length xs → x ≡ get_or xs i x → next ≡ out ++ f x → out ++ G (drop i xs) ≡ whole → next ++ G (drop (i + 1) xs) ≡ whole
  piece_next xs i x out next whole lt at is h =
      let rest : drop i xs ≡ x ∷ drop (i + 1) xs = drop-cons xs i x lt ∙ (ap (λ y. y ∷ drop (suc i) xs) (sym at) ∙ ap (λ k. x ∷ drop k xs) (sym (add-one i))) in
      ap (λ o. o ++ G (drop (i + 1) xs)) is ∙ (append_assoc out (f x) (G (drop (i + 1) xs)) ∙ (ap (λ o. out ++ o) (sym (cons x (drop (i + 1) xs)) ∙ ap G (sym rest)) ∙ h))

-- tokens with a space before each
abbrev pub spaced_tokens : List (List ℕ) → List ℕ
spaced_tokens tokens = flat_map (λ w. 32 ∷ w) tokens

abbrev pub spaced_numbers : List ℕ → List ℕ
spaced_numbers ns = spaced_tokens (map decimal ns)

abbrev pub spaced_rows : List (List ℕ) → List ℕ
spaced_rows rows = spaced_tokens (flat_map row_tokens rows)

pub rows_next : (row : List ℕ) (rows : List (List ℕ)) → spaced_rows (row ∷ rows) ≡ spaced_tokens (row_tokens row) ++ spaced_rows rows
rows_next row rows = flat_map-append (λ w. 32 ∷ w) (row_tokens row) (flat_map row_tokens rows)

pub name_at_place : (names : List (List ℕ)) (i : ℕ) (name : List ℕ) → slice_get names i ≡ Some name → name ≡ get_or names i name
name_at_place [] i name e = absurd cc
name_at_place (n ∷ names) zero name e = cc
name_at_place (n ∷ names) (suc i) name e = name_at_place names i name e
