use Rattle.quotient_gb.proofs.Bases.{represents_all, reduces_all}
use Rattle.quotient_gb.proofs.laws.holds_at_every_degree.Goals as goal

pub returns-clause-generators : goal.returns-clause-generators
returns-clause-generators g c = λ P H D G degrees h n. reduces_all P H G h.members D degrees h n

pub returns-clause-pairs : goal.returns-clause-pairs
returns-clause-pairs g c = λ P H D G members degrees h n. represents_all P H G members D degrees h n
