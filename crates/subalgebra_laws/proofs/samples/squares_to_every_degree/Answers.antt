use Rattle.std.proofs.Common.{[], ◌∷◌}
use Rattle.subalgebra_laws.specs.Samples.{square, squares}
use Rattle.subalgebra_laws.proofs.Squares.{presentation, decided, monic, closed, checked}
use Rattle.subalgebra_laws.proofs.samples.squares_to_every_degree.Goals as goal

pub returns : goal.returns
returns c =
    let basis = (c.checked_basis.ensures squares presentation 2 (square ∷ []) (decided 2)).0 checked in
    record {
      basis = λ d. c.closed_basis.ensures.basis squares (square ∷ []) 2 d presentation (decided 2) basis closed;
      leads = λ d. c.closed_basis.ensures.all_leads squares (square ∷ []) 2 d presentation (decided 2) basis closed;
      words = c.decisions.ensures.all_words squares (square ∷ []) 2 presentation (decided 2) monic closed.leads;
    }
