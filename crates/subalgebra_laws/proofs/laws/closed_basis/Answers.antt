use Rattle.subalgebra_laws.proofs.Generated.{generated_leads}
use Rattle.subalgebra_laws.proofs.ReducedBases.{leads_exactly, closed_leads, closed_basis}
use Rattle.subalgebra_laws.proofs.laws.closed_basis.Goals as goal

pub returns : goal.returns
returns g c = record {
  generated = λ P S H HS. generated_leads P H S HS;
  leads = λ P S n H red m le. leads_exactly P H n S red m (λ h. red.generates m h le);
  all_leads = λ P S D n H dec red closed m le. leads_exactly P H D S red m (closed_leads P H D S dec red closed m);
  basis = λ P S D n H dec red closed. closed_basis P H D S dec red closed n;
}
