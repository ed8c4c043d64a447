use Rattle.std.proofs.Common.{◌≡◌, ℕ, ◌<◌}
use Rattle.monomial_order.specs.Monomial.{exponent}
use Rattle.completion.proofs.candidates.has_none_of_first.Given as goal

abbrev pub invariant-letters : goal.invariant-letters
invariant-letters l = (k : ℕ) → k < l.i → exponent l.w k ≡ 0
