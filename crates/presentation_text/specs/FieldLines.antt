-- The line of a text that has its field.
use Rattle.std.specs.Prelude.{◌≡◌, ℕ, Bool, List, ◌∷◌, Ok}
use Rattle.presentation_text.specs.Heading.{header_line, field_line}
use Rattle.presentation_text.specs.Lines.{content, end_line}
use Rattle.presentation_text.specs.Reading.{Line, next}

-- the header is right, and the line with this number is the next one, a right field line if these sizes are known
pub record HasFieldLine (known : ℕ → Bool) (text : List ℕ) (line : ℕ) : Type 0 where
  pub bytes : List ℕ
  pub behind : List Line
  pub none : List (List ℕ)
  pub header : next (end_line text) header_line (content text) ≡ Ok (none, (line, bytes) ∷ behind)
  pub size : ℕ
  pub field : field_line known bytes ≡ Ok size
