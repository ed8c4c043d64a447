use Rattle.monomial_order.specs.laws.Orders.{word_laws}
use Rattle.polynomials.specs.laws.Decreasing.{IsDecreasing_IsPoly}
use Rattle.poly_core.specs.Presentation.{presented}
use Rattle.witness.proofs.Witnesses.{tracks_product, graded_product}
use Rattle.witness.specs.Tracking.{by_order}
use Rattle.witness.proofs.arithmetic.product.Goals as goal

pub returns-clause-tracks : goal.returns-clause-tracks
returns-clause-tracks g c S ha hb =
    let K = g.F.Field.ops c.args.p.now.field in
    let O = g.O.Order.order c.args.p.now.order in
    tracks_product (presented g.F.Field.ops g.O.Order.order c.args.p.now) c.requires.presentation S c.args.a.now.value c.args.a.now.by c.args.b.now.value c.args.b.now.by
    c.in_ok-mul.field-0 c.in_ok-mul-2.field-0
    (IsDecreasing_IsPoly K O c.args.a.now.value c.requires.a.value.decreasing) (IsDecreasing_IsPoly K O c.args.b.now.value c.requires.b.value.decreasing)
    c.in_ok-mul.ensures.product c.in_ok-mul-2.ensures.product ha hb

pub returns-clause-graded : goal.returns-clause-graded
returns-clause-graded g c d e ha hb =
    let K = g.F.Field.ops c.args.p.now.field in
    let F = g.met.F.Field.laws c.args.p.now.field in
    let O = g.O.Order.order c.args.p.now.order in
    let w = c.args.w.now in
    let W = by_order w in
    record {
      value = graded_product K F O (g.met.O.Order.laws c.args.p.now.order) d e c.args.a.now.value c.args.b.now.value c.in_ok-mul.field-0
          (IsDecreasing_IsPoly K O c.args.a.now.value c.requires.a.value.decreasing) (IsDecreasing_IsPoly K O c.args.b.now.value c.requires.b.value.decreasing)
          c.in_ok-mul.ensures.product ha.value hb.value;
      by = graded_product K F W (word_laws w.x_degrees.items w.s_degrees.items w.x_in_range w.s_in_range) d e c.args.a.now.by c.args.b.now.by c.in_ok-mul-2.field-0
          (IsDecreasing_IsPoly K W c.args.a.now.by c.requires.a.by.decreasing) (IsDecreasing_IsPoly K W c.args.b.now.by c.requires.b.by.decreasing)
          c.in_ok-mul-2.ensures.product ha.by hb.by;
    }
