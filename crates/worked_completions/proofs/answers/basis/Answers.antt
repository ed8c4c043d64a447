use Rattle.std.proofs.Common.{sym, subst}
use Rattle.std.specs.Prelude.{All}
use Rattle.worked_rows.specs.Rings.{IsIn, IsRing}
use Rattle.worked_completions.proofs.AtRest.{elements_in, ring}
use Rattle.worked_completions.proofs.answers.basis.Goals as goal

pub elements_text-requires-clause-valid : goal.elements_text-requires-clause-valid
elements_text-requires-clause-valid c = subst IsRing (sym c.presentation.ensures) (ring c.args.c.now c.requires)

pub elements_text-requires-clause-canonical : goal.elements_text-requires-clause-canonical
elements_text-requires-clause-canonical c =
    subst (λ p. All (λ t. IsIn p t.value) c.basis.result.now) (sym c.presentation.ensures)
    (subst (All (λ t. IsIn c.args.c.now.presentation t.value)) (sym c.basis.ensures.value)
    (elements_in c.args.c.now c.requires))
