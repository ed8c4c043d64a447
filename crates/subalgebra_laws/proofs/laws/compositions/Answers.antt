use Rattle.subalgebra_laws.proofs.Compositions.{value_composes, value_congruent}
use Rattle.subalgebra_laws.proofs.laws.compositions.Goals as goal

pub returns : goal.returns
returns g c = record { values = λ P H e hs fs. value_composes P.field H.field fs e hs; congruent = value_congruent }
