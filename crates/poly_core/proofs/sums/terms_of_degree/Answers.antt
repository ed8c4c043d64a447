use Rattle.std.proofs.Common.{◌≡◌, ◌+◌, arith, ap, sym, subst, ◌∙◌, take}
use Rattle.polynomials.specs.Polynomial.{IsMeasured, term_of, component}
use Rattle.polynomials.specs.laws.Terms.{all_at}
use Rattle.poly_core.proofs.Steps.{component_more, component_skip}
use Rattle.poly_core.proofs.sums.terms_of_degree.Goals as goal
use Rattle.poly_core.proofs.sums.terms_of_degree.Goals.{then-degree-d+in_ok-copy+in_ok-push, else-degree-d}

pub degree-requires-clause-monomial : goal.degree-requires-clause-monomial
degree-requires-clause-monomial g c = (all_at (IsMeasured (g.O.Order.order c.args.o.now)) c.args.terms.now c.loop-t.t-index c.t-item.result c.requires (omega arith) c.t-item.is).monomial

pub degree-requires-clause-small : goal.degree-requires-clause-small
degree-requires-clause-small g c = (all_at (IsMeasured (g.O.Order.order c.args.o.now)) c.args.terms.now c.loop-t.t-index c.t-item.result c.requires (omega arith) c.t-item.is).small

pub loop-t-preserved : goal.loop-t-preserved
loop-t-preserved g c =
    elim c.if-degree-d.branch [
      | then-degree-d+in_ok-copy+in_ok-push w ↦
          component_more (g.O.Order.order c.args.o.now) c.args.d c.args.terms.now c.loop-t.t-index c.t-item.result c.loop-t.copies.items c.if-degree-d.copies.items
          (term_of w.in_ok-copy.field-0 c.t-item.result.by) (omega arith) c.t-item.is c.loop-t.invariant
          (ap (λ m. term_of m c.t-item.result.by) w.in_ok-copy.ensures.same) (sym c.degree.ensures ∙ w.if-degree-d.true)
          (ap (λ v. v.items) w.copies-is ∙ w.in_ok-push.ensures.items)
      | else-degree-d w ↦
          subst (λ v. v.items ≡ component (g.O.Order.order c.args.o.now) c.args.d (take (c.loop-t.t-index + 1) c.args.terms.now)) (sym w.copies-is)
          (component_skip (g.O.Order.order c.args.o.now) c.args.d c.args.terms.now c.loop-t.t-index c.t-item.result c.loop-t.copies.items (omega arith) c.t-item.is c.loop-t.invariant
          (λ e. w.if-degree-d.false (c.degree.ensures ∙ e)))
    ]
