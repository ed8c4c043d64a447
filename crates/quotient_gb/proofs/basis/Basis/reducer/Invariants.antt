use Rattle.std.proofs.Common.{ℕ, ◌<◌, [], slice_index_or}
use Rattle.monomial_order.specs.Monomial.{Divides}
use Rattle.quotient_gb.proofs.basis.Basis.reducer.Given as goal

-- no lead so far divides m
abbrev pub invariant-search : goal.invariant-search
invariant-search g l = (k : ℕ) → k < l.i → Divides (slice_index_or l.self.leads.items k []) l.m → ⊥
