use Rattle.std.proofs.Common.{◌≡◌, ◌<◌, ◌≤◌, ◌+◌, arith, refl, sym, ap, subst, ◌∙◌, take, get_or, true, false}
use Rattle.std.specs.Prelude.{All}
use Rattle.std.proofs.lemmas.Bool.{true≢false}
use Rattle.std.proofs.lemmas.List.{take_all}
use Rattle.std.proofs.lemmas.List.Elements.{All-more}
use Rattle.polynomials.specs.Polynomial.{IsMeasured}
use Rattle.polynomials.specs.laws.Terms.{all_at, canonical_measured}
use Rattle.poly_core.proofs.Calls.{one_degree, two_degrees}
use Rattle.poly_core.proofs.polynomial.Poly.is_homogeneous.Goals as goal

pub degree-requires-clause-monomial : goal.degree-requires-clause-monomial
degree-requires-clause-monomial g c =
    (all_at (IsMeasured (g.O.Order.order c.args.o.now)) c.terms-t-items.result.now c.loop-t.t-index c.t-item.result (subst (All (IsMeasured (g.O.Order.order c.args.o.now))) (sym c.terms-t-items.ensures) (canonical_measured (g.F.Field.ops c.requires.canonical.0) (g.O.Order.order c.args.o.now) c.args.a.now c.requires.canonical.1)) (omega arith) c.t-item.is).monomial

pub degree-requires-clause-small : goal.degree-requires-clause-small
degree-requires-clause-small g c =
    (all_at (IsMeasured (g.O.Order.order c.args.o.now)) c.terms-t-items.result.now c.loop-t.t-index c.t-item.result (subst (All (IsMeasured (g.O.Order.order c.args.o.now))) (sym c.terms-t-items.ensures) (canonical_measured (g.F.Field.ops c.requires.canonical.0) (g.O.Order.order c.args.o.now) c.args.a.now c.requires.canonical.1)) (omega arith) c.t-item.is).small

pub returns-then-degree : goal.returns-then-degree
returns-then-degree g c f h = (
  λ e. absurd (true≢false (sym e)),
  λ z. absurd
      (two_degrees (g.F.Field.ops f) (g.met.F.Field.laws f) (g.O.Order.order c.args.o.now) (g.met.O.Order.laws c.args.o.now) c.args.a.now c.in-Some.first.now
      c.in-Some.ensures.first.0 c.loop-t.t-index c.t-item.result c.in-Some.ensures.first.1 h.decreasing
      (subst (λ x. c.loop-t.t-index < Rattle.std.proofs.Common.length x) c.terms-t-items.ensures c.loop-t-test.true)
      (c.t-item.is ∙ ap (λ x. get_or x c.loop-t.t-index c.t-item.result) c.terms-t-items.ensures)
      (λ e. c.if-degree.true (c.degree.ensures ∙ (e ∙ sym c.degree-degree.ensures))) z),
)

pub loop-t-preserved : goal.loop-t-preserved
loop-t-preserved g c =
    All-more (λ t. (g.O.Order.order c.args.o.now).degree t.at ≡ c.degree-degree.result) c.terms-t-items.result.now c.loop-t.t-index c.t-item.result c.loop-t-test.true c.loop-t.invariant
    (ap (λ t. (g.O.Order.order c.args.o.now).degree t.at) (sym c.t-item.is) ∙ (sym c.degree.ensures ∙ c.if-degree.false))

pub returns : goal.returns
returns g c f h = (
  λ e. one_degree (g.F.Field.ops f) (g.met.F.Field.laws f) (g.O.Order.order c.args.o.now) (g.met.O.Order.laws c.args.o.now) c.args.a.now c.in-Some.first.now
      c.in-Some.ensures.first.0 c.degree-degree.result c.in-Some.ensures.first.1 h.decreasing
      (subst (All (λ t. (g.O.Order.order c.args.o.now).degree t.at ≡ c.degree-degree.result)) (take_all c.loop-t.t-index c.terms-t-items.result.now (omega arith) ∙ c.terms-t-items.ensures) c.loop-t.invariant),
  λ z. refl,
)
