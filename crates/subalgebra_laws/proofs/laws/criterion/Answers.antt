use Rattle.subalgebra_laws.proofs.Criterion.{criterion, leads_generated}
use Rattle.subalgebra_laws.proofs.laws.criterion.Goals as goal

pub returns : goal.returns
returns g c = record {
  members = λ P S n H dec HS. criterion P H S HS n dec;
  leads = λ P S n H dec HS. leads_generated P H S HS n dec;
}
