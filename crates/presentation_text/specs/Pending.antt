-- What is left of a text whose lines are taken one by one.
use Rattle.std.specs.Prelude.{ℕ, ◌+◌, List, length}
use Rattle.presentation_text.specs.Lines.{lines, content_lines}

-- the number that a line behind the last one would have, and the lines that are left
pub record Pending : Type 0 where
  pub missing : ℕ
  pub left : List (ℕ × List ℕ)

-- of a text whose first line has the number n
abbrev pub pending : ℕ → List ℕ → Pending
pending n text = record { missing = n + length (lines text); left = content_lines n (lines text) }
