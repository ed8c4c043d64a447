use Rattle.std.proofs.Common.{sym, subst}
use Rattle.std.specs.Prelude.{All}
use Rattle.word_field.specs.Residues.{residues}
use Rattle.poly_core.specs.Text.{AreValues}
use Rattle.worked_completions.proofs.AtRest.{right_values}
use Rattle.worked_completions.proofs.answers.relations.Goals as goal

pub relations_text-requires : goal.relations_text-requires
relations_text-requires c =
    subst (λ p. All (λ r. AreValues (residues p.field.modulus) r.right) c.relations.result.now)
    (sym c.presentation.ensures)
    (subst (All (λ r. AreValues (residues c.args.c.now.presentation.field.modulus) r.right))
    (sym c.relations.ensures.value)
    (right_values c.args.c.now c.requires))
