use Rattle.std.proofs.Common.{ℕ, ◌<◌, ◌≤◌, [], get_or}
use Rattle.polynomials.specs.Polynomial.{IsHomogeneous}
use Rattle.quotient_gb.proofs.later_degrees.has_generator_above.Given as goal

-- no generator so far has a degree above d
abbrev pub invariant-generators : goal.invariant-generators
invariant-generators g l = (k : ℕ) → k < l.r-index → (e : ℕ) → IsHomogeneous (g.F.Field.ops l.p.field) (g.O.Order.order l.p.order) e (get_or l.p.ideal.items k []) → e ≤ l.d
