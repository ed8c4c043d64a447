use Rattle.std.proofs.Common.{◌∙◌, refl, sym, inr, arith}
use Rattle.std.proofs.lemmas.Bool.{true≢false}
use Rattle.poly_core.specs.Presentation.{weight_order_of}
use Rattle.polynomials.specs.Polynomial.{degree_of}
use Rattle.state_text.proofs.Degrees.{not_zero, degree_is, homogeneous_is, order_laws}
use Rattle.state_text.proofs.element_line.due_degree.Goals as goal
use Rattle.state_text.proofs.element_line.due_degree.Goals.{then-degree-lt1-via-then-degree-lt1, then-degree-lt1-via-else-degree-lt1+then-c-degree, then-degree-lt1-via-else-degree-lt1+else-c-degree+then-not-is_homogeneous}

pub returns-in_err-degree-clause-none : goal.returns-in_err-degree-clause-none
returns-in_err-degree-clause-none g c = λ none due.
    not_zero (g.F.Field.ops c.args.p.now.field) (g.met.F.Field.laws c.args.p.now.field) (weight_order_of c.args.p.now.order) (order_laws c.args.p.now.order) c.args.a.now due.homogeneous.some.0 due.homogeneous.some.1 (c.in_err-degree.ensures.zero.0 refl)

pub returns-then-degree-lt1-clause-none : goal.returns-then-degree-lt1-clause-none
returns-then-degree-lt1-clause-none g c = λ none due.
    let is = degree_is (g.F.Field.ops c.args.p.now.field) (g.met.F.Field.laws c.args.p.now.field) (weight_order_of c.args.p.now.order) (order_laws c.args.p.now.order) c.args.a.now c.requires.decreasing c.in_ok-degree.degree (c.in_ok-degree.ensures.greatest c.args.p.now.field c.requires) in
    let some = due.at_least in
    let most = due.at_most in
    elim c.then-degree-lt1.branch [
      | then-degree-lt1-via-then-degree-lt1 w ↦ let low = w.if-degree-lt1.true in omega (arith, is, some, low)
      | then-degree-lt1-via-else-degree-lt1+then-c-degree w ↦ let high = w.if-c-degree.true in omega (arith, is, most, high)
      | then-degree-lt1-via-else-degree-lt1+else-c-degree+then-not-is_homogeneous w ↦
          true≢false (sym ((w.is_homogeneous.ensures c.args.p.now.field c.requires).1 (inr (degree_of (weight_order_of c.args.p.now.order) c.args.a.now, due.homogeneous))) ∙ w.if-not-is_homogeneous.true)
    ]

pub returns-clause-degree : goal.returns-clause-degree
returns-clause-degree g c =
    degree_is (g.F.Field.ops c.args.p.now.field) (g.met.F.Field.laws c.args.p.now.field) (weight_order_of c.args.p.now.order) (order_laws c.args.p.now.order) c.args.a.now c.requires.decreasing c.in_ok-degree.degree (c.in_ok-degree.ensures.greatest c.args.p.now.field c.requires)

pub returns-clause-some : goal.returns-clause-some
returns-clause-some g c =
    let greatest = c.in_ok-degree.ensures.greatest c.args.p.now.field c.requires in
    let is = degree_is (g.F.Field.ops c.args.p.now.field) (g.met.F.Field.laws c.args.p.now.field) (weight_order_of c.args.p.now.order) (order_laws c.args.p.now.order) c.args.a.now c.requires.decreasing c.in_ok-degree.degree greatest in
    record {
      homogeneous = homogeneous_is (g.F.Field.ops c.args.p.now.field) (g.met.F.Field.laws c.args.p.now.field) (weight_order_of c.args.p.now.order) (order_laws c.args.p.now.order) c.args.a.now c.requires.decreasing (not_zero (g.F.Field.ops c.args.p.now.field) (g.met.F.Field.laws c.args.p.now.field) (weight_order_of c.args.p.now.order) (order_laws c.args.p.now.order) c.args.a.now greatest.some.0 greatest.some.1)
          ((c.is_homogeneous.ensures c.args.p.now.field c.requires).0 c.if-not-is_homogeneous.false);
      at_least = let low = c.if-degree-lt1.false in omega (arith, is, low);
      at_most = let high = c.if-c-degree.false in omega (arith, is, high);
    }
