use Rattle.std.proofs.Common.{ℕ, ◌≤◌, ◌↔◌}
use Rattle.witness.specs.Expansion.{UsesUpTo}
use Rattle.witness.proofs.Greatest.{First}
use Rattle.witness.proofs.expansion.greatest_degree.Given as goal

abbrev pub invariant-terms : goal.invariant-terms
invariant-terms g l = (b : ℕ) → l.greatest ≤ b ↔ First (λ c. UsesUpTo l.k l.w.s_degrees.items c) l.t-items l.t-index b
