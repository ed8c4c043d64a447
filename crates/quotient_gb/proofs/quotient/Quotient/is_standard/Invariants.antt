use Rattle.std.proofs.Common.{ℕ, ◌<◌, [], get_or}
use Rattle.monomial_order.specs.Monomial.{Divides}
use Rattle.quotient_gb.proofs.quotient.Quotient.is_standard.Given as goal

-- no lead so far divides m
abbrev pub invariant-search : goal.invariant-search
invariant-search g l = (k : ℕ) → k < l.lead-index → Divides (get_or l.lead-items k []) l.m → ⊥
