use Rattle.std.proofs.Common.{◌≡◌, drop}
use Rattle.polynomials.specs.Polynomial.{coefficient}
use Rattle.subduction.proofs.coefficients.coefficient_at.Given as goal

abbrev pub invariant-terms : goal.invariant-terms
invariant-terms g l = coefficient (g.F.Field.ops l.f) (drop l.t-index l.a) l.m ≡ coefficient (g.F.Field.ops l.f) l.a l.m
