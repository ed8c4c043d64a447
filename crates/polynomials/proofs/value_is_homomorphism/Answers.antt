use Rattle.std.proofs.Common.{ap}
use Rattle.polynomials.specs.Polynomial.{coefficient}
use Rattle.polynomials.specs.laws.Value.{value_same, value-append, value-times, value-constant}
use Rattle.polynomials.proofs.value_is_homomorphism.Goals as goal

pub returns-clause-same : goal.returns-clause-same
returns-clause-same g c h k ps e = value_same (g.F.Field.ops c.args.f.now) (g.met.F.Field.laws c.args.f.now) h k ps e

pub returns-clause-sums : goal.returns-clause-sums
returns-clause-sums g c h k ps m = ap (λ x. coefficient (g.F.Field.ops c.args.f.now) x m) (value-append (g.F.Field.ops c.args.f.now) (g.met.F.Field.laws c.args.f.now) h k ps)

pub returns-clause-products : goal.returns-clause-products
returns-clause-products g c h k ps = value-times (g.F.Field.ops c.args.f.now) (g.met.F.Field.laws c.args.f.now) h k ps

pub returns-clause-constants : goal.returns-clause-constants
returns-clause-constants g c c' ps = value-constant (g.F.Field.ops c.args.f.now) (g.met.F.Field.laws c.args.f.now) c' ps
