-- The text of a trial.
use Rattle.std.specs.Prelude.{ℕ, ◌+◌, List}
use Rattle.power_sums.specs.PowerSums.{power_sums}
use Rattle.outputs.specs.Summary.{IsSummary}

-- the summary of the power sums in number + 2 variables, to the degree number + 2
abbrev pub IsTrialText : ℕ → List ℕ → Type 0
IsTrialText number text = IsSummary (power_sums (number + 2)) number (number + 2) text
