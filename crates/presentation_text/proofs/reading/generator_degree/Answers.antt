use Rattle.std.proofs.Common.{arith}
use Rattle.monomial_order.specs.laws.Ties.{weight_laws}
use Rattle.poly_core.specs.Presentation.{weight_order_of}
use Rattle.presentation_text.proofs.GeneratorDegrees.{first_degree}
use Rattle.presentation_text.proofs.reading.generator_degree.Goals as goal

pub returns-in-Some-clause-positive : goal.returns-in-Some-clause-positive
returns-in-Some-clause-positive g c =
    let d = first_degree (g.F.Field.ops c.args.f.now) (g.met.F.Field.laws c.args.f.now) (weight_order_of c.args.h.now.order) (weight_laws c.args.h.now.order.weights.items c.args.h.now.order.rows.items c.args.h.now.order.tie c.args.h.now.order.weights_in_range)
    c.args.p.now c.in-Some.ensures.first.0 c.in-Some.first.now c.in-Some.ensures.first.1 c.requires in
    omega (arith, d.0, c.degree.ensures)

pub returns-in-Some-clause-small : goal.returns-in-Some-clause-small
returns-in-Some-clause-small g c =
    let d = first_degree (g.F.Field.ops c.args.f.now) (g.met.F.Field.laws c.args.f.now) (weight_order_of c.args.h.now.order) (weight_laws c.args.h.now.order.weights.items c.args.h.now.order.rows.items c.args.h.now.order.tie c.args.h.now.order.weights_in_range)
    c.args.p.now c.in-Some.ensures.first.0 c.in-Some.first.now c.in-Some.ensures.first.1 c.requires in
    omega (arith, d.1, c.degree.ensures)
