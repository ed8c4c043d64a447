use Rattle.polynomials.specs.laws.NormalForm.{zeros_decide}
use Rattle.quotient_gb.proofs.Knowing.{quotient_zeros}
use Rattle.quotient_gb.proofs.laws.quotients_decide.Goals as goal

pub returns-clause-zeros : goal.returns-clause-zeros
returns-clause-zeros g c = λ P H q h. quotient_zeros P H q h

pub returns-clause-decided : goal.returns-clause-decided
returns-clause-decided g c = λ P H q h. zeros_decide P H q.degree q.leads (quotient_zeros P H q h)
