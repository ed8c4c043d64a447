use Rattle.std.proofs.Common.{◌∙◌, ap, length, refl}
use Rattle.poly_core.specs.Presentation.{presented}
use Rattle.completion.specs.Completion.{elements_of}
use Rattle.outputs.specs.Completing.{IsCompletedTo}
use Rattle.outputs.specs.Summary.{trial_text}
use Rattle.outputs.proofs.Completed.{summary_printed}
use Rattle.outputs.proofs.summaries.summary_of.Goals as goal

pub returns : goal.returns
returns g c =
    let s = c.args.c.now in
    let here : IsCompletedTo g.F.Field.ops g.O.Order.order s.presentation c.args.bound s = record {
      completion = c.requires.completion;
      not_begun = c.requires.not_begun;
      degree = c.requires.degree;
      presentation = refl;
    } in
    let found = c.in_ok-is_complete.ensures in
    summary_printed g.F.Field.ops g.O.Order.order s.presentation c.args.bound s here c.args.number c.basis.result.now
    c.in_ok-is_complete.field-0 _ (c.basis.ensures.value ∙ found.unchanged.elements)
    (c.later_is_open.ensures (presented g.F.Field.ops g.O.Order.order s.presentation) (elements_of s) s.degree) found.yes found.no
    (c.in_ok-summary_text.ensures ∙ ap (λ mark. trial_text c.args.number c.args.bound (length c.basis.result.now) mark) c.mark_of-mark.ensures)
