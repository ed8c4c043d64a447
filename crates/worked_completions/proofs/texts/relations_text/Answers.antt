use Rattle.std.proofs.Common.{sym, subst}
use Rattle.word_field.specs.Residues.{residues}
use Rattle.poly_core.specs.Text.{AreValues}
use Rattle.worked_completions.proofs.texts.relations_text.Goals as goal

pub relation_text-requires : goal.relation_text-requires
relation_text-requires c =
    subst (λ r. AreValues (residues c.args.p.now.field.modulus) r.right) (sym c.r-item.is)
    (c.requires c.relations.r-index c.r-item.result c.relations-test.true)
