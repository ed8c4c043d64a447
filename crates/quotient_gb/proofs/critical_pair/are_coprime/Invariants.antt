use Rattle.std.proofs.Common.{◌≡◌, ◌<◌, ◌⊎◌, ℕ}
use Rattle.monomial_order.specs.Monomial.{exponent}
use Rattle.quotient_gb.proofs.critical_pair.are_coprime.Given as goal

-- no place so far has a nonzero exponent in both
abbrev pub invariant-places : goal.invariant-places
invariant-places l = (k : ℕ) → k < l.i → (exponent l.m k ≡ 0) ⊎ (exponent l.n k ≡ 0)
