use Rattle.polynomials.specs.laws.ReducedBasis.{reduced_unique}
use Rattle.polynomials.proofs.reduced_basis_is_unique.Goals as goal

pub returns : goal.returns
returns g c P d S T H h k = reduced_unique P H d S T h k
