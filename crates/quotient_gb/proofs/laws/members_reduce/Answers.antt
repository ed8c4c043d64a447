use Rattle.quotient_gb.proofs.Complete.{complete_reduces, complete_pairs}
use Rattle.quotient_gb.proofs.laws.members_reduce.Goals as goal

pub returns-clause-members : goal.returns-clause-members
returns-clause-members g c = λ P H n G members divides a hp ha small M l. complete_reduces P H G members n divides a hp ha M l (small M l)

pub returns-clause-pairs : goal.returns-clause-pairs
returns-clause-pairs g c = λ P H n G members divides. complete_pairs P H G members n divides
