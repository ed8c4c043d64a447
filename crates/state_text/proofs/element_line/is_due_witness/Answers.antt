use Rattle.std.proofs.Common.{◌<◌, ◌≤◌, ◌-◌, ◌++◌, ◌∙◌, length, subst, sym, arith}
use Rattle.std.specs.Prelude.{◌↔◌}
use Rattle.std.proofs.lemmas.Bool.{true≢false, lt-ltb, ltb-true}
use Rattle.monomial_order.specs.Monomial.{IsMonomial}
use Rattle.poly_core.specs.Presentation.{presented, weight_order_of}
use Rattle.polynomials.specs.Polynomial.{AllAt}
use Rattle.polynomials.specs.laws.Decreasing.{IsDecreasing_IsPoly}
use Rattle.polynomials.specs.laws.Terms.{poly_monomials}
use Rattle.witness.specs.Expansion.{UsesUpTo}
use Rattle.witness.specs.Tracking.{by_order}
use Rattle.state_text.proofs.Witnesses.{due, due_graded, due_uses}
use Rattle.state_text.proofs.element_line.is_due_witness.Goals as goal

pub greatest_degree-requires : goal.greatest_degree-requires
greatest_degree-requires g c =
    subst (λ xs. AllAt (IsMonomial (length (xs ++ c.args.w.now.s_degrees.items))) c.args.h.now) c.requires.x
    (poly_monomials (g.F.Field.ops c.args.p.now.field) (length (c.args.w.now.x_degrees.items ++ c.args.w.now.s_degrees.items)) c.args.h.now
    (IsDecreasing_IsPoly (g.F.Field.ops c.args.p.now.field) (by_order c.args.w.now) c.args.h.now c.requires.witness.decreasing))

pub returns-then-has_degree : goal.returns-then-has_degree
returns-then-has_degree g c S order =
    let P = presented g.F.Field.ops weight_order_of c.args.p.now in
    let laws = g.met.F.Field.laws c.args.p.now.field in
    let most : (c.greatest_degree.result ≤ c.args.degree - 1) ↔ AllAt (UsesUpTo (length P.generators) c.args.w.now.s_degrees.items (c.args.degree - 1)) c.args.h.now =
    subst (λ n. (c.greatest_degree.result ≤ c.args.degree - 1) ↔ AllAt (UsesUpTo n c.args.w.now.s_degrees.items (c.args.degree - 1)) c.args.h.now) (c.len.ensures ∙ c.args.p.now.generators.ok.0) (c.greatest_degree.ensures (c.args.degree - 1)) in
    let positive : 1 ≤ c.args.degree = c.requires.positive in (
      λ yes.
          let low : c.greatest_degree.result < c.args.degree = ltb-true _ _ yes in
          due P laws S c.args.w.now order c.args.h.now c.requires.witness c.args.degree positive (c.has_degree.ensures.0 c.if-has_degree.true) (most.0 (omega arith)),
      λ is.
          let low = most.1 (due_uses P laws S c.args.w.now order c.args.h.now c.requires.witness c.args.degree positive is) in
          lt-ltb _ _ (omega (arith, low)),
    )

pub returns-else-has_degree : goal.returns-else-has_degree
returns-else-has_degree g c S order =
    let P = presented g.F.Field.ops weight_order_of c.args.p.now in
    let laws = g.met.F.Field.laws c.args.p.now.field in (
      λ yes. absurd (true≢false (sym yes ∙ c.if-has_degree.false)),
      λ is. c.has_degree.ensures.1 (due_graded P laws S c.args.w.now order c.args.h.now c.requires.witness c.args.degree is),
    )
