use Rattle.std.proofs.Common.{[], ◌∷◌}
use Rattle.subalgebra_laws.specs.Samples.{quotient, quotient_basis}
use Rattle.subalgebra_laws.proofs.Quotient.{presentation, decided, monic, checked, zeros}
use Rattle.subalgebra_laws.proofs.samples.quotient_to_degree_3.Goals as goal

pub returns : goal.returns
returns c =
    let basis = (c.checked_basis.ensures quotient presentation 3 quotient_basis (decided 3)).0 checked in
    record {
      basis = basis;
      members = c.subduction.ensures quotient quotient_basis 3 presentation (decided 3) basis;
      zeros = c.decisions.ensures.zero_words quotient quotient_basis presentation monic 3 ((2 ∷ []) ∷ []) zeros;
    }
