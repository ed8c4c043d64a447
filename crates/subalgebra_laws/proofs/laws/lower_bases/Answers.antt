use Rattle.subalgebra_laws.proofs.Next.{empty_reduced, fronts_reduced}
use Rattle.subalgebra_laws.proofs.laws.lower_bases.Goals as goal

pub returns : goal.returns
returns g c = record { empty = empty_reduced; fronts = fronts_reduced }
