use Rattle.std.proofs.Common.{◌≡◌, ◌≤◌, ◌∙◌, sym, ap, subst, ℕ, false, arith}
use Rattle.std.specs.Prelude.{unwrap_or}
use Rattle.poly_core.specs.Presentation.{presented}
use Rattle.polynomials.specs.Polynomial.{degree_of, IsCanonical, IsDegree}
use Rattle.subduction.specs.Subduced.{CanSubduce}
use Rattle.completion.specs.Completion.{CompletionState, IsCompletion}
use Rattle.completion.proofs.HigherDegrees.{degree_found, if_some}
use Rattle.completion.proofs.StandingAfter.{with_values}
use Rattle.completion.proofs.completion.Completion.subduce.Goals as goal

pub subduce_with-requires-clause-values : goal.subduce_with-requires-clause-values
subduce_with-requires-clause-values g c =
    (subst (IsCompletion g.F.Field.ops g.O.Order.order) (sym c.self.view_is) c.requires.completion).standing.values

pub subduce_with-requires-clause-can : goal.subduce_with-requires-clause-can
subduce_with-requires-clause-can g c =
    subst (λ (s : CompletionState g.row.F.Denot g.row.O.Denot g.row.F-Elem.Denot).
    CanSubduce (presented g.F.Field.ops g.O.Order.order s.presentation) s.basis c.args.t.now) (sym c.self.view_is)
    c.requires.can

pub returns-clause-completion : goal.returns-clause-completion
returns-clause-completion g c =
    let P = presented g.F.Field.ops g.O.Order.order c.self.inside.presentation in
    let K = subst (IsCompletion g.F.Field.ops g.O.Order.order) (sym c.self.view_is) c.requires.completion in
    let can = subst (λ (s : CompletionState g.row.F.Denot g.row.O.Denot g.row.F-Elem.Denot).
    CanSubduce (presented g.F.Field.ops g.O.Order.order s.presentation) s.basis c.args.t.now) (sym c.self.view_is)
    c.requires.can in
    let begun : c.self.inside.begun ≡ false =
    ap (λ (s : CompletionState g.row.F.Denot g.row.O.Denot g.row.F-Elem.Denot). s.begun)
    c.self.view_is ∙ c.requires.not_begun in
    let a = c.args.t.now.value in
    let found : degree_of P.order a ≤ unwrap_or c.degree.result 0 =
    degree_found P K.presentation.presentation a can.canonical.value.decreasing c.degree.result c.degree.ensures.zero.0
    (if_some (λ (d : ℕ). (f : g.row.F.Denot) → IsCanonical (g.F.Field.ops f) P.order a → IsDegree (g.F.Field.ops f)
    P.order d a) (λ (d : ℕ). IsDegree P.field P.order d a)
    (λ d h. h c.self.inside.presentation.field can.canonical.value) c.degree.result c.degree.ensures.greatest) in
    let put = c.unwrap_or-degree.ensures in
    let most = c.max-self-inside.ensures in
    record {
      presentation = K.presentation;
      standing = with_values P _ K.standing begun c.max-self-inside.result c.subduce_with.new.values
          c.subduce_with.ensures.values
          (c.subduce_with.ensures.words c.max-self-inside.result (omega arith)
          (λ w v e. let low = K.standing.kept w v e in omega arith));
    }
