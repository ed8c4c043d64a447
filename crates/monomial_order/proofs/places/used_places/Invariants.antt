use Rattle.std.proofs.Common.{◌≡◌, ◌≤◌, ℕ, length}
use Rattle.monomial_order.specs.Monomial.{exponent}
use Rattle.monomial_order.proofs.places.used_places.Given as goal

abbrev pub invariant-loop-used : goal.invariant-loop-used
invariant-loop-used l = record {
  within : l.used ≤ length l.exponents;
  zeros : (i : ℕ) → l.used ≤ i → exponent l.exponents i ≡ 0;
}

abbrev pub decreases-loop-used : goal.decreases-loop-used
decreases-loop-used l = l.used
