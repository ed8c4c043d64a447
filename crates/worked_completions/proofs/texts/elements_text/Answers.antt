use Rattle.std.proofs.Common.{sym, subst}
use Rattle.worked_rows.specs.Rings.{IsIn}
use Rattle.worked_completions.proofs.texts.elements_text.Goals as goal

pub text_of-requires-clause-canonical : goal.text_of-requires-clause-canonical
text_of-requires-clause-canonical c =
    subst (λ t. IsIn c.args.p.now t.value) (sym c.t-item.is)
    (c.requires.canonical c.elements.t-index c.t-item.result c.elements-test.true)
