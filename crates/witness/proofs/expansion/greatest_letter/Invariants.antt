use Rattle.std.proofs.Common.{◌≢◌, ℕ, ◌+◌, ◌≤◌, ◌<◌, ◌↔◌, get_or}
use Rattle.monomial_order.specs.Monomial.{exponent}
use Rattle.witness.proofs.expansion.greatest_letter.Given as goal

abbrev pub invariant-places : goal.invariant-places
invariant-places l = (b : ℕ) → l.greatest ≤ b ↔ ((i : ℕ) → l.k + i < l.place → exponent l.m (l.k + i) ≢ 0 → get_or l.w.s_degrees.items (l.k + i) 0 ≤ b)
