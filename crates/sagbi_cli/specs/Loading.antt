-- What is loaded and read, and what stops it.
use Rattle.std.specs.Prelude.{◌≡◌, ℕ, ◌<◌, ◌≤◌, List, length, Option, Some, None}
use Rattle.presentation_text.specs.Meaning.{text_max, word_ops, pair_ops}
use Rattle.poly_core.specs.Presentation.{IsValid, weight_order_of}
use Rattle.presentation_text.specs.declared.any_presentation.AnyPresentation.{AnyPresentation}
use Rattle.presentation_text.specs.declared.any_presentation.AnyPresentation.TheVariants.{Word, Pair}
use Rattle.presentation_text.specs.declared.text_fault.TextFault.{TextFault}
use Rattle.presentation_text.specs.declared.text_fault.TextFault.TheVariants as faults
use Rattle.presentation_text.specs.declared.text_fault.TextFault.TheVariants.{At}
use Rattle.sagbi_cli.specs.declared.outcome.Outcome.{Outcome}
use Rattle.sagbi_cli.specs.declared.outcome.Outcome.TheVariants.{Stopped}
use Rattle.sagbi_cli.specs.declared.stop.Input.{Input}
use Rattle.sagbi_cli.specs.declared.stop.Stop.{Stop}
use Rattle.sagbi_cli.specs.declared.stop.Stop.TheVariants.{Missing, TooLong, Fault, Shelf, Memory}

-- the bytes of a file that is not too long
pub record IsLoaded (file : Option (List ℕ)) (bytes : List ℕ) : Type 0 where
  pub found : file ≡ Some bytes
  pub short : length bytes ≤ text_max

-- why a file is not loaded
abbrev pub IsRefused : Input → Option (List ℕ) → Stop → Type 0
IsRefused input file (Missing other) = (other ≡ input) × (file ≡ None)
IsRefused input file (TooLong other) = (other ≡ input) × (bytes : List ℕ) × (file ≡ Some bytes) × (text_max < length bytes)
IsRefused input file (Fault other kind line) = ⊥
IsRefused input file Shelf = Unit {0}
IsRefused input file Memory = Unit {0}

-- why a fault of a text stops a command
abbrev pub stop_by : Input → TextFault → Stop
stop_by input (At kind line) = Fault input kind line
stop_by input faults.Memory = Memory

-- a command stops by the defined outcome, or for want of the shelf or of memory
abbrev pub StopsAs : Outcome → Stop → Type 0
StopsAs defined Shelf = Unit {0}
StopsAs defined Memory = Unit {0}
StopsAs defined stop = defined ≡ Stopped stop

-- a presentation over a field of either kind is valid
abbrev pub IsAnyValid : AnyPresentation → Type 0
IsAnyValid (Word p) = IsValid word_ops weight_order_of p
IsAnyValid (Pair p) = IsValid pair_ops weight_order_of p
