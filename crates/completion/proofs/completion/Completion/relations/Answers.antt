use Rattle.std.proofs.Common.{sym, subst}
use Rattle.std.specs.Prelude.{All}
use Rattle.poly_core.specs.Presentation.{presented}
use Rattle.subduction.specs.laws.Degrees.{letters_laws}
use Rattle.completion.specs.Completion.{elements_of, CompletionState}
use Rattle.completion.specs.LetterNames.{element_names}
use Rattle.completion.specs.RelationLines.{IsPrintable}
use Rattle.completion.specs.laws.Printing.{relations_printable}
use Rattle.completion.proofs.completion.Completion.relations.Goals as goal

pub returns-clause-printable : goal.returns-clause-printable
returns-clause-printable g c =
    let s = c.args.self.now in
    let P = presented g.F.Field.ops g.O.Order.order s.presentation in
    let K = c.requires.completion in
    let H = K.presentation.presentation in
    rw c.as_slice.ensures.value
    (subst (λ (t : CompletionState g.row.F.Denot g.row.O.Denot g.row.F-Elem.Denot).
    All (IsPrintable P.field (element_names P.order.places)) t.relations) (sym c.self.view_is)
    (relations_printable P (elements_of s) H (letters_laws P H s.basis K.standing.basis) s.degree s.relations
    (K.standing.at_degree c.requires.not_begun).relations))
