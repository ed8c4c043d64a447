-- The outcome of a command over known files: the first step that refuses it decides.
use Rattle.std.specs.Prelude.{ℕ, List, length, nat_le, if◌then◌else◌, Option, Some, None, Result, Ok, Err}
use Rattle.std.specs.FinMap as map
use Rattle.word_field.specs.Residues.{residues}
use Rattle.ext_field.specs.PairField.{pairs_of}
use Rattle.poly_core.specs.declared.place_names.Names.TheVariants.{Listed}
use Rattle.presentation_text.specs.Kinds.{Fault as TextFault}
use Rattle.presentation_text.specs.Meaning.{text_max}
use Rattle.presentation_text.specs.Reading.{reading, queries, order_of_head, AnyReading}
use Rattle.presentation_text.specs.Reading.AnyReading.{word, pair}
use Rattle.shelf_io.specs.Shelf.{Files}
use Rattle.sagbi_cli.specs.declared.command.Command.{Command}
use Rattle.sagbi_cli.specs.declared.command.Command.TheVariants.{Complete, Ask, Relations, Trial}
use Rattle.sagbi_cli.specs.declared.outcome.Outcome.{Outcome}
use Rattle.sagbi_cli.specs.declared.outcome.Outcome.TheVariants.{Done, Usage, Sink, Stopped}
use Rattle.sagbi_cli.specs.declared.stop.Input.{Input}
use Rattle.sagbi_cli.specs.declared.stop.Input.TheVariants as inputs
use Rattle.sagbi_cli.specs.declared.stop.Stop.{Stop}
use Rattle.sagbi_cli.specs.declared.stop.Stop.TheVariants.{Missing, TooLong, Fault, Shelf, Memory}

-- a text has a reading, with which the steps go on, or its first fault
abbrev pub after_reading : {A : Type 0} → Input → Result A TextFault → (A → Outcome) → Outcome
after_reading input (Err (kind, line)) next = Stopped (Fault input kind line)
after_reading input (Ok read) next = next read

-- the same of a file, which may be missing or too long
abbrev pub after_loading : {A : Type 0} → Input → Option (List ℕ) → (List ℕ → Result A TextFault) → (A → Outcome) → Outcome
after_loading input None read next = Stopped (Missing input)
after_loading input (Some bytes) read next =
    if nat_le (length bytes) text_max then after_reading input (read bytes) next else Stopped (TooLong input)

-- of a file of queries, after the reading of a presentation
abbrev pub after_queries : Option (List ℕ) → AnyReading → Outcome
after_queries file (word r) =
    after_loading inputs.Queries file (queries (residues r.head.size) (order_of_head r.head) (Listed r.head.names)) (λ _. Done)
after_queries file (pair r) =
    after_loading inputs.Queries file (queries (pairs_of r.head.size) (order_of_head r.head) (Listed r.head.names)) (λ _. Done)

-- the outcome of a command
abbrev pub outcome_of : Files → Command → Outcome
outcome_of files (Complete pres bound pick) = after_loading inputs.Presentation (map.get files pres.now) reading (λ _. Done)
outcome_of files (Ask pres bound asked) =
    after_loading inputs.Presentation (map.get files pres.now) reading (after_queries (map.get files asked.now))
outcome_of files (Relations pres bound) = after_loading inputs.Presentation (map.get files pres.now) reading (λ _. Done)
outcome_of files (Trial number) = Done

-- the exit status
abbrev pub stop_status : Stop → ℕ
stop_status (Fault inputs.Presentation kind line) = 2
stop_status (Fault inputs.Queries kind line) = 4
stop_status Shelf = 5
stop_status Memory = 7
stop_status (Missing input) = 8
stop_status (TooLong input) = 9

abbrev pub status_of : Outcome → ℕ
status_of Done = 0
status_of Usage = 1
status_of Sink = 6
status_of (Stopped stop) = stop_status stop
