-- The first line of a text, and lines that are skipped.
use Rattle.std.proofs.Common.{◌≡◌, ℕ, ◌+◌, ◌-◌, ◌<◌, ◌≤◌, Bool, true, false, not, eqb, List, [], ◌∷◌, length, take, drop, refl, ap, ◌∙◌, arith, add-one}
use Rattle.std.proofs.lemmas.Bool.{eqb-true}
use Rattle.polynomial_text.specs.Bytes.{is_skipped, front, behind}
use Rattle.polynomial_text.specs.laws.Fronts.{nothing_left, first_and_rest}
use Rattle.presentation_text.specs.Lines.{lines, content_lines}

-- ---- the first line

-- the lines behind the line feed that the bytes begin with
abbrev lines_behind : List ℕ → List (List ℕ)
lines_behind [] = []
lines_behind (b ∷ bytes) = lines bytes

lines_split : (text : List ℕ) → (text ≡ [] → ⊥) → lines text ≡ front (λ b. not (eqb b 10)) text ∷ lines_behind (behind (λ b. not (eqb b 10)) text)
unfolding lines front behind
lines_split [] some = absurd (some refl)
lines_split (b ∷ []) some = by_test (eqb b 10) refl
  where
    by_test : (t : Bool) → eqb b 10 ≡ t → lines (b ∷ []) ≡ front (λ b. not (eqb b 10)) (b ∷ []) ∷ lines_behind (behind (λ b. not (eqb b 10)) (b ∷ []))
    by_test true e = rw e refl
    by_test false e = rw e refl
lines_split (b ∷ (c ∷ text)) some = by_test (eqb b 10) refl (lines_split (c ∷ text) (λ e. absurd cc))
  where
    by_test : (t : Bool) → eqb b 10 ≡ t → lines (c ∷ text) ≡ front (λ b. not (eqb b 10)) (c ∷ text) ∷ lines_behind (behind (λ b. not (eqb b 10)) (c ∷ text)) →
        lines (b ∷ (c ∷ text)) ≡ front (λ b. not (eqb b 10)) (b ∷ (c ∷ text)) ∷ lines_behind (behind (λ b. not (eqb b 10)) (b ∷ (c ∷ text)))
    by_test true e rest = rw e refl
    by_test false e rest = rw (e, rest) refl

pub lines_last : (text rest : List ℕ) → (text ≡ [] → ⊥) → rest ≡ behind (λ b. not (eqb b 10)) text → length rest < 1 → lines text ≡ front (λ b. not (eqb b 10)) text ∷ lines rest
unfolding lines
lines_last text rest some is none = rw (lines_split text some, ← is, nothing_left rest none) refl

pub lines_next : (text rest : List ℕ) → (text ≡ [] → ⊥) → rest ≡ behind (λ b. not (eqb b 10)) text → 1 ≤ length rest → lines text ≡ front (λ b. not (eqb b 10)) text ∷ lines (take (length rest - 1) (drop 1 rest))
lines_next text rest some is more =
    lines_split text some ∙ ap (λ (r : List (List ℕ)). front (λ b. not (eqb b 10)) text ∷ r) (rw (← is) (ap lines_behind (first_and_rest rest more)))

-- ---- lines with content

pub content_taken : (n : ℕ) (line text rest : List ℕ) → lines text ≡ line ∷ lines rest → is_skipped line ≡ false → content_lines n (lines text) ≡ (n, line) ∷ content_lines (n + 1) (lines rest)
unfolding content_lines
content_taken n line text rest split other = rw (split, other, add-one) refl

pub content_passed : (n : ℕ) (line text rest : List ℕ) → lines text ≡ line ∷ lines rest → is_skipped line ≡ true → content_lines n (lines text) ≡ content_lines (n + 1) (lines rest)
unfolding content_lines
content_passed n line text rest split skipped = rw (split, skipped, add-one) refl

is_over : (text : List ℕ) → eqb (length text) 0 ≡ true → text ≡ []
is_over [] e = refl
is_over (b ∷ text) e = absurd (omega (arith, eqb-true (length (b ∷ text)) 0 e))

pub content_over : (n : ℕ) (text : List ℕ) → eqb (length text) 0 ≡ true → content_lines n (lines text) ≡ []
unfolding content_lines lines
content_over n text e = rw (is_over text e) refl

pub missing_over : (n : ℕ) (text : List ℕ) → eqb (length text) 0 ≡ true → n ≡ n + length (lines text)
unfolding lines
missing_over n text e = rw (is_over text e) (omega arith)
