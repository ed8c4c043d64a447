use Rattle.subalgebra_laws.proofs.ReducedBases.{checked_reduced, reduced_checked}
use Rattle.subalgebra_laws.proofs.laws.checked_basis.Goals as goal

pub returns : goal.returns
returns g c P H n S dec = (checked_reduced P H n S dec, reduced_checked P H n S dec)
