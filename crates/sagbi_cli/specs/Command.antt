-- The words of a command line, and what they ask for.
use Rattle.std.specs.Prelude.{◌≡◌, ◌≢◌, ℕ, ◌<◌, ◌≤◌, List, [], ◌∷◌, length, codes, slice_get, unwrap_or, Some}
use Rattle.std.specs.Fmt.{decimal}
use Rattle.completion.specs.declared.completion.TheConstants.{BOUND_MAX}
use Rattle.completion.specs.declared.pick.Pick.{Pick}
use Rattle.completion.specs.declared.pick.Pick.TheVariants.{First, Last}
use Rattle.sagbi_cli.specs.declared.command.Command.{Command}
use Rattle.sagbi_cli.specs.declared.command.Command.TheVariants.{Complete, Ask, Relations, Trial}
use Rattle.sagbi_cli.specs.declared.stop.Input.{Input}
use Rattle.sagbi_cli.specs.declared.stop.Input.TheVariants.{Presentation, Queries}

-- a number from 1 on
abbrev pub IsUpTo : ℕ → ℕ → Type 0
IsUpTo most n = (1 ≤ n) × (n ≤ most)

-- the greatest number of a trial
abbrev pub trial_max : ℕ
trial_max = 8

-- a name and a bound, which come after the word of a command
pub record AreNameAndBound (pres : List ℕ) (bound : ℕ) : Type 0 where
  pub named : 0 < length pres
  pub bounded : IsUpTo BOUND_MAX bound

-- the words behind the bound say that the first or the last candidate is taken
abbrev pub IsPicked : List (List ℕ) → Pick → Type 0
IsPicked words First = length words ≡ 3
IsPicked words Last = (length words ≡ 4) × (slice_get words 3 ≡ Some (codes "last"))

-- the words are those of the command
abbrev pub IsCommand : List (List ℕ) → Command → Type 0
IsCommand words (Complete pres bound First) =
    (words ≡ codes "complete" ∷ pres.now ∷ decimal bound ∷ []) × AreNameAndBound pres.now bound
IsCommand words (Complete pres bound Last) =
    (words ≡ codes "complete" ∷ pres.now ∷ decimal bound ∷ codes "last" ∷ []) × AreNameAndBound pres.now bound
IsCommand words (Ask pres bound queries) =
    (words ≡ codes "ask" ∷ pres.now ∷ decimal bound ∷ queries.now ∷ []) × AreNameAndBound pres.now bound
    × (0 < length queries.now) × (pres.now ≢ queries.now)
IsCommand words (Relations pres bound) =
    (words ≡ codes "relations" ∷ pres.now ∷ decimal bound ∷ []) × AreNameAndBound pres.now bound
IsCommand words (Trial number) = (words ≡ codes "trial" ∷ decimal number ∷ []) × IsUpTo trial_max number

-- the numbers of a command are in range
abbrev pub AreInRange : Command → Type 0
AreInRange (Complete pres bound pick) = IsUpTo BOUND_MAX bound
AreInRange (Ask pres bound queries) = IsUpTo BOUND_MAX bound
AreInRange (Relations pres bound) = IsUpTo BOUND_MAX bound
AreInRange (Trial number) = IsUpTo trial_max number

abbrev pub IsNoCommand : List (List ℕ) → Type 0
IsNoCommand words = (command : Command) → IsCommand words command → ⊥

-- the name of a file in the words of a command
abbrev pub name_of : List (List ℕ) → Input → List ℕ
name_of words Presentation = unwrap_or (slice_get words 1) []
name_of words Queries = unwrap_or (slice_get words 3) []

-- there is a first byte, and it is a digit from 1 on
abbrev pub BeginsWithDigit : List ℕ → Type 0
BeginsWithDigit [] = ⊥
BeginsWithDigit (b ∷ bytes) = (49 ≤ b) × (b ≤ 57)
