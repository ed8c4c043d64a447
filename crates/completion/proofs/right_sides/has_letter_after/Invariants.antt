use Rattle.std.proofs.Common.{◌≤◌, ◌+◌, length, take}
use Rattle.std.specs.Prelude.{All}
use Rattle.completion.proofs.right_sides.has_letter_after.Given as goal

abbrev pub invariant-terms : goal.invariant-terms
invariant-terms g l = All (λ t. length t.at ≤ l.n + l.k) (take l.t-index l.terms)
