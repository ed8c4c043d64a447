use Rattle.subalgebra_laws.proofs.ReducedBases.{subduction}
use Rattle.subalgebra_laws.proofs.laws.subduction.Goals as goal

pub returns : goal.returns
returns g c P S n H dec red = subduction P H n S dec red
