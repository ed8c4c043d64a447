-- How a run ends: its outcome, and what it puts on `out` and on `note`.
use Rattle.std.specs.Prelude.{◌≡◌, ◌⊎◌, ℕ, List, Option, Some}
use Rattle.shelf_io.specs.Shelf.{Files}
use Rattle.sagbi_cli.specs.Command.{IsCommand, IsNoCommand}
use Rattle.sagbi_cli.specs.Message.{line_of}
use Rattle.sagbi_cli.specs.Outcome.{outcome_of, status_of}
use Rattle.sagbi_cli.specs.Output.{IsOutput}
use Rattle.sagbi_cli.specs.SinkChange.{SinkChange, HasFailed, TakesNothing, TakesWhole, TakesFront, TakesOrFails}
use Rattle.sagbi_cli.specs.declared.command.Command.{Command}
use Rattle.sagbi_cli.specs.declared.outcome.Outcome.{Outcome}
use Rattle.sagbi_cli.specs.declared.outcome.Outcome.TheVariants.{Done, Usage, Sink, Stopped}
use Rattle.sagbi_cli.specs.declared.stop.Stop.TheVariants.{Shelf, Memory}

-- A run ends with the defined outcome, unless the shelf fails, memory runs out, or the sink fails to take an output.
abbrev pub EndsAs : Outcome → Outcome → Type 0
EndsAs defined outcome =
    (outcome ≡ defined)
    ⊎ ((outcome ≡ Stopped Shelf) ⊎ ((outcome ≡ Stopped Memory) ⊎ ((defined ≡ Done) × (outcome ≡ Sink))))

-- what `out` takes of a text that is printed
abbrev pub Prints : List ℕ → Outcome → SinkChange → Type 0
Prints text Done out = TakesWhole text out
Prints text Sink out = TakesFront text out × HasFailed out
Prints text outcome out = ⊥

-- whatever the files are, `out` takes nothing unless an output is begun
abbrev pub TakesOnlyOutput : Outcome → SinkChange → Type 0
TakesOnlyOutput Done out = Unit {0}
TakesOnlyOutput Sink out = HasFailed out
TakesOnlyOutput outcome out = TakesNothing out

-- of a text that the command prints, `out` takes all if the run is done, and a front if the sink failed
abbrev pub Puts : Files → Command → Outcome → SinkChange → Type 0
Puts files command Done out = (text : List ℕ) × IsOutput files command text × TakesWhole text out
Puts files command Sink out = (text : List ℕ) × IsOutput files command text × TakesFront text out
Puts files command outcome out = Unit {0}

-- the end of a command over files that are known
pub record EndsOver (files : Files) (command : Command) (outcome : Outcome) (out : SinkChange) : Type 0 where
  pub ends : EndsAs (outcome_of files command) outcome
  pub puts : Puts files command outcome out

-- the end of a command
pub record EndsCommand (words : List (List ℕ)) (holds : Option Files) (outcome : Outcome) (out : SinkChange) : Type 0 where
  pub command : Command
  pub words_are : IsCommand words command
  pub known : (files : Files) → holds ≡ Some files → EndsOver files command outcome out

-- One outcome gives the status, the line on `note` and what `out` takes.
pub record Ends (words : List (List ℕ)) (holds : Option Files) (status : ℕ) (out note : SinkChange) : Type 0 where
  pub outcome : Outcome
  pub status_is : status ≡ status_of outcome
  pub notes : TakesOrFails (line_of words outcome) note
  pub only_output : TakesOnlyOutput outcome out
  pub asked : (IsNoCommand words × (outcome ≡ Usage)) ⊎ EndsCommand words holds outcome out
