-- The line that a run puts on `note`.
use Rattle.std.specs.Prelude.{ℕ, List, [], ◌++◌, codes}
use Rattle.std.specs.Fmt.{decimal}
use Rattle.presentation_text.specs.Kinds.{kind_name}
use Rattle.presentation_text.specs.declared.text_kind.TextKind.{TextKind}
use Rattle.sagbi_cli.specs.Command.{name_of}
use Rattle.sagbi_cli.specs.declared.outcome.Outcome.{Outcome}
use Rattle.sagbi_cli.specs.declared.outcome.Outcome.TheVariants.{Done, Usage, Sink, Stopped}
use Rattle.sagbi_cli.specs.declared.stop.Input.{Input}
use Rattle.sagbi_cli.specs.declared.stop.Input.TheVariants.{Presentation, Queries}
use Rattle.sagbi_cli.specs.declared.stop.Stop.{Stop}
use Rattle.sagbi_cli.specs.declared.stop.Stop.TheVariants.{Missing, TooLong, Fault, Shelf, Memory}

-- what a file is called in a message
abbrev pub input_name : Input → List ℕ
input_name Presentation = codes "presentation"
input_name Queries = codes "query"

-- a message with a name at its end
abbrev pub named_line : List ℕ → List ℕ → List ℕ
named_line message name = message ++ (name ++ codes "\n")

-- where a fault is, behind the name of its file
abbrev pub fault_line : TextKind → ℕ → List ℕ
fault_line kind line = codes " line " ++ (decimal line ++ named_line (codes ": ") (kind_name kind))

-- the first fault of a file
abbrev pub input_line : Input → TextKind → ℕ → List ℕ
input_line input kind line = codes "error: " ++ (input_name input ++ fault_line kind line)

module _ (words : List (List ℕ)) where
  -- the line of what stopped the command of these words
  abbrev pub stop_line : Stop → List ℕ
  stop_line (Missing input) = named_line (codes "error: missing ") (name_of words input)
  stop_line (TooLong input) = named_line (codes "error: too long ") (name_of words input)
  stop_line (Fault input kind line) = input_line input kind line
  stop_line Shelf = codes "error: shelf\n"
  stop_line Memory = codes "error: memory\n"

  -- the line of an outcome
  abbrev pub line_of : Outcome → List ℕ
  line_of Done = []
  line_of Usage = codes "error: usage\n"
  line_of Sink = codes "error: sink\n"
  line_of (Stopped stop) = stop_line stop
