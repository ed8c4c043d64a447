use Rattle.std.proofs.Common.{◌≤◌, ◌++◌, ◌∙◌, List, drop, sym, ap, subst}
use Rattle.std.proofs.lemmas.List.{take-append-drop}
use Rattle.completion.specs.Completion.{CompletionState, IsCompletion}
use Rattle.completion.specs.declared.relations.Relation.{Relation}
use Rattle.completion.proofs.CutCompletion.{cut_completion, words_are, words_comparable, words_increasing}
use Rattle.completion.proofs.completion.Completion.cut_to.Goals as goal

pub low_count-count-requires-clause-comparable : goal.low_count-count-requires-clause-comparable
low_count-count-requires-clause-comparable g c =
    let C = subst (IsCompletion g.F.Field.ops g.O.Order.order) (sym c.self.view_is) c.requires.completion in
    let n = ap (λ (t : CompletionState g.row.F.Denot g.row.O.Denot g.row.F-Elem.Denot). t.begun) c.self.view_is ∙ c.requires.not_begun in
    let e = words_are g.F.Field.ops g.O.Order.order _ C n c.order.result.now _ c.words.ensures c.order.ensures.x c.order.ensures.s in
    rw c.as_slice.ensures.value (words_comparable g.F.Field.ops g.O.Order.order _ C n c.order.result.now e)

pub low_count-count-requires-clause-increasing : goal.low_count-count-requires-clause-increasing
low_count-count-requires-clause-increasing g c =
    let C = subst (IsCompletion g.F.Field.ops g.O.Order.order) (sym c.self.view_is) c.requires.completion in
    let n = ap (λ (t : CompletionState g.row.F.Denot g.row.O.Denot g.row.F-Elem.Denot). t.begun) c.self.view_is ∙ c.requires.not_begun in
    let e = words_are g.F.Field.ops g.O.Order.order _ C n c.order.result.now _ c.words.ensures c.order.ensures.x c.order.ensures.s in
    rw c.as_slice.ensures.value (words_increasing g.F.Field.ops g.O.Order.order _ C n c.order.result.now e)

pub returns-clause-completion : goal.returns-clause-completion
returns-clause-completion g c =
    let C = subst (IsCompletion g.F.Field.ops g.O.Order.order) (sym c.self.view_is) c.requires.completion in
    let n = ap (λ (t : CompletionState g.row.F.Denot g.row.O.Denot g.row.F-Elem.Denot). t.begun) c.self.view_is ∙ c.requires.not_begun in
    let e = words_are g.F.Field.ops g.O.Order.order _ C n c.order.result.now _ c.words.ensures c.order.ensures.x c.order.ensures.s in
    let less = subst (λ (t : CompletionState g.row.F.Denot g.row.O.Denot g.row.F-Elem.Denot). c.args.d ≤ t.degree) (sym c.self.view_is) c.requires.below in
    cut_completion g.F.Field.ops g.O.Order.order _ C n c.args.d less c.cut_to.new.self c.cut_to.ensures.basis
    c.in_ok-cut_to.ensures.quotient c.in_ok-cut_to.ensures.words c.in_ok-cut_to.ensures.elements
    c.lower_bases.ensures.fronts c.growing.ensures.differ c.growing.ensures.values c.growing.ensures.old_sums c.growing.ensures.minimal
    c.order.result.now e c.low_count-count.result
    (rw c.as_slice.ensures.value at c.low_count-count.ensures.at_most)
    (rw c.as_slice.ensures.value at c.low_count-count.ensures.above)
    _ c.min-self-inside.ensures _ c.truncate.ensures.items _ _ _ c.new.ensures c.new-2.ensures _ n

pub returns-clause-relations : goal.returns-clause-relations
returns-clause-relations g c =
    let count = c.low_count-count.result in
    let old = c.self.inside.relations.items in (
      drop count old,
      sym (ap (λ (t : CompletionState g.row.F.Denot g.row.O.Denot g.row.F-Elem.Denot). t.relations) c.self.view_is) ∙
          (sym (take-append-drop count old) ∙ ap (λ (x : List (Relation g.row.F.Denot g.row.F-Elem.Denot)). x ++ drop count old) (sym c.truncate.ensures.items)),
    )
