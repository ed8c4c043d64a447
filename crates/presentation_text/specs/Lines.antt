-- Lines, those with content, and the tokens of a line.
use Rattle.std.specs.Prelude.{ℕ, suc, ◌+◌, List, [], ◌∷◌, length, filter, not, ◌==◌, if◌then◌else◌}
use Rattle.polynomial_text.specs.Bytes.{is_blank, is_skipped}
use Rattle.std.specs.List.{slice_split}

-- the lines, each without its line feed; bytes behind the last line feed are one more
unfoldable pub lines : List ℕ → List (List ℕ)
lines [] = []
lines (b ∷ text) = if b == 10 then [] ∷ lines text else begun b (lines text)
  where
    begun : ℕ → List (List ℕ) → List (List ℕ)
    begun b [] = (b ∷ []) ∷ []
    begun b (line ∷ rest) = (b ∷ line) ∷ rest

-- the lines that are not skipped, with their numbers; the first line has the number n
unfoldable pub content_lines : ℕ → List (List ℕ) → List (ℕ × List ℕ)
content_lines n [] = []
content_lines n (line ∷ rest) = if is_skipped line then content_lines (suc n) rest else (n, line) ∷ content_lines (suc n) rest

-- the lines of a text that are not skipped
abbrev pub content : List ℕ → List (ℕ × List ℕ)
content text = content_lines 1 (lines text)

-- the number that a line behind the last one would have
abbrev pub end_line : List ℕ → ℕ
end_line text = length (lines text) + 1

-- the parts of a line between blanks that have a byte
abbrev pub tokens : List ℕ → List (List ℕ)
tokens line = filter (λ w. not (length w == 0)) (slice_split is_blank line)
