use Rattle.std.proofs.Common.{◌≡◌, ◌∙◌, sym, ap, subst, false}
use Rattle.std.specs.Prelude.{IfOk}
use Rattle.poly_core.specs.Presentation.{presented}
use Rattle.completion.specs.Closed.{HasLater}
use Rattle.completion.specs.Completion.{elements_of, CompletionState, IsCompletion}
use Rattle.completion.proofs.StandingAfter.{with_basis}
use Rattle.completion.proofs.completion.Completion.is_complete.Goals as goal

pub returns-clause-completion : goal.returns-clause-completion
returns-clause-completion g c =
    let P = presented g.F.Field.ops g.O.Order.order c.self.inside.presentation in
    let K = subst (IsCompletion g.F.Field.ops g.O.Order.order) (sym c.self.view_is) c.requires.completion in
    let begun : c.self.inside.begun ≡ false =
    ap (λ (s : CompletionState g.row.F.Denot g.row.O.Denot g.row.F-Elem.Denot). s.begun)
    c.self.view_is ∙ c.requires.not_begun in
    record {
      presentation = K.presentation;
      standing = with_basis P _ K.standing begun c.has_nothing_later.new.basis c.has_nothing_later.ensures.basis
          c.has_nothing_later.ensures.elements c.has_nothing_later.ensures.words c.has_nothing_later.ensures.quotient;
    }

pub returns-clause-no : goal.returns-clause-no
returns-clause-no g c =
    subst (λ (s : CompletionState g.row.F.Denot g.row.O.Denot g.row.F-Elem.Denot). IfOk c.has_nothing_later.result
    (λ r. r ≡ false → HasLater (presented g.F.Field.ops g.O.Order.order s.presentation) s.degree (elements_of s)))
    c.self.view_is c.has_nothing_later.ensures.no
