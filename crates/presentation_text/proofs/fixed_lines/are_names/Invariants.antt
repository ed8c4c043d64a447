use Rattle.std.proofs.Common.{◌≡◌, ◌≤◌, length}
use Rattle.presentation_text.specs.Heading.{names_max}
use Rattle.presentation_text.specs.Taking.{are_names}
use Rattle.presentation_text.proofs.fixed_lines.are_names.Given as goal

abbrev pub invariant-loop-token : goal.invariant-loop-token
invariant-loop-token l = record { same : are_names l.count l.tokens ≡ are_names 0 l.line; few : l.count ≤ names_max }

abbrev pub decreases-loop-token : goal.decreases-loop-token
decreases-loop-token l = length l.tokens
