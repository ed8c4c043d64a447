use Rattle.std.proofs.Common.{◌∙◌, subst, sym, refl, inr}
use Rattle.std.proofs.lemmas.Bool.{eqb-true, true≢false}
use Rattle.polynomials.specs.Polynomial.{IsHomogeneous}
use Rattle.witness.specs.Tracking.{by_order}
use Rattle.witness.specs.laws.Letters.{by_laws}
use Rattle.state_text.proofs.Degrees.{not_zero, degree_is, homogeneous_is, homogeneous_degree}
use Rattle.state_text.proofs.element_line.has_degree.Goals as goal

pub returns-then-greatest-degree : goal.returns-then-greatest-degree
returns-then-greatest-degree g c =
    let most = c.in-Some.ensures.greatest c.args._f.now c.requires in
    let is = degree_is (g.F.Field.ops c.args._f.now) (g.met.F.Field.laws c.args._f.now) (by_order c.args.w.now) (by_laws c.args.w.now) c.args.h.now c.requires.decreasing c.in-Some.greatest most in (
      λ yes. subst (λ d. IsHomogeneous (g.F.Field.ops c.args._f.now) (by_order c.args.w.now) d c.args.h.now) (sym is ∙ c.if-greatest-degree.true)
          (homogeneous_is (g.F.Field.ops c.args._f.now) (g.met.F.Field.laws c.args._f.now) (by_order c.args.w.now) (by_laws c.args.w.now) c.args.h.now c.requires.decreasing
          (not_zero (g.F.Field.ops c.args._f.now) (g.met.F.Field.laws c.args._f.now) (by_order c.args.w.now) (by_laws c.args.w.now) c.args.h.now most.some.0 most.some.1)
          ((c.is_homogeneous.ensures c.args._f.now c.requires).0 yes)),
      λ graded. (c.is_homogeneous.ensures c.args._f.now c.requires).1 (inr (c.args.degree, graded)),
    )

pub returns-else-greatest-degree : goal.returns-else-greatest-degree
returns-else-greatest-degree g c =
    let most = c.in-Some.ensures.greatest c.args._f.now c.requires in
    let is = degree_is (g.F.Field.ops c.args._f.now) (g.met.F.Field.laws c.args._f.now) (by_order c.args.w.now) (by_laws c.args.w.now) c.args.h.now c.requires.decreasing c.in-Some.greatest most in (
      λ yes. absurd (c.if-greatest-degree.false (eqb-true c.in-Some.greatest c.args.degree yes)),
      λ graded. absurd (c.if-greatest-degree.false (is ∙ homogeneous_degree (g.F.Field.ops c.args._f.now) (g.met.F.Field.laws c.args._f.now) (by_order c.args.w.now) (by_laws c.args.w.now) c.args.h.now c.requires.decreasing c.args.degree graded)),
    )

pub returns-in-None : goal.returns-in-None
returns-in-None g c = (
  λ no. absurd (true≢false (sym no)),
  λ graded. absurd (not_zero (g.F.Field.ops c.args._f.now) (g.met.F.Field.laws c.args._f.now) (by_order c.args.w.now) (by_laws c.args.w.now) c.args.h.now graded.some.0 graded.some.1 (c.in-None.ensures.zero.0 refl)),
)
