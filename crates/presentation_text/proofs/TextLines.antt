-- Lines one after another in a text.
use Rattle.std.proofs.Common.{◌≡◌, ℕ, suc, false, eqb, List, [], ◌∷◌, ◌++◌, Result, Ok, refl}
use Rattle.std.specs.List.{AllByRecursion}
use Rattle.presentation_text.specs.declared.text_kind.TextKind.{TextKind}
use Rattle.polynomial_text.specs.Bytes.{is_skipped}
use Rattle.presentation_text.specs.Lines.{lines, content_lines}
use Rattle.presentation_text.specs.Reading.{at_line, next}

-- the bytes have no line feed among them
abbrev pub IsOneLine : List ℕ → Type 0
IsOneLine bytes = AllByRecursion (λ b. eqb b 10 ≡ false) bytes

pub lines_step : (w rest : List ℕ) → IsOneLine w → lines (w ++ 10 ∷ rest) ≡ w ∷ lines rest
unfolding lines
lines_step [] rest h = refl
lines_step (b ∷ w) rest h = rw (h.0, lines_step w rest h.1) refl

pub content_step : (n : ℕ) (w rest : List ℕ) → IsOneLine w → is_skipped w ≡ false → content_lines n (lines (w ++ 10 ∷ rest)) ≡ (n, w) ∷ content_lines (suc n) (lines rest)
unfolding content_lines
content_step n w rest h d = rw (lines_step w rest h, d) refl

-- the next line, if it is not skipped, is read, and the text behind it is left
pub next_line : {A : Type 0} (last n : ℕ) (f : List ℕ → Result A TextKind) (a : A) (w rest : List ℕ) → IsOneLine w → is_skipped w ≡ false → f w ≡ Ok a →
    next last f (content_lines n (lines (w ++ 10 ∷ rest))) ≡ Ok (a, content_lines (suc n) (lines rest))
unfolding next at_line
next_line last n f a w rest h d e = rw (content_step n w rest h d, e) refl

pub no_more : (n : ℕ) → content_lines n (lines []) ≡ []
unfolding content_lines lines
no_more n = refl
