use Rattle.std.proofs.Common.{refl, sym}
use Rattle.std.proofs.lemmas.Bool.{true≢false}
use Rattle.monomial_order.specs.MonomialOrder.{IsMonomialOrder}
use Rattle.monomial_order.specs.laws.Ties.{weight_laws}
use Rattle.presentation_text.specs.declared.head.Head.{Head}
use Rattle.presentation_text.specs.Giving.{order_in}
use Rattle.presentation_text.proofs.Judged.{judged_mixed, judged_generator, judged_constant, zero_generator, positive_generator}
use Rattle.presentation_text.proofs.polys.judge.Goals as goal

laws : (h : Head) → IsMonomialOrder (order_in h)
laws h = weight_laws h.order.weights.items h.order.rows.items h.order.tie h.order.weights_in_range

pub returns-then-not-is_homogeneous-clause-fault : goal.returns-then-not-is_homogeneous-clause-fault
returns-then-not-is_homogeneous-clause-fault g c = λ sum s.
    judged_mixed (g.F.Field.ops c.args.f.now) (g.met.F.Field.laws c.args.f.now) (order_in c.args.h.now) (laws c.args.h.now) sum c.args.p.now s c.args.constant c.requires.canonical
    (λ same. true≢false (sym ((c.if-not-is_homogeneous.ensures c.args.f.now c.requires.canonical).1 same)))

pub returns-then-degree-eq0-clause-fault : goal.returns-then-degree-eq0-clause-fault
returns-then-degree-eq0-clause-fault g c = λ sum s.
    judged_constant (g.F.Field.ops c.args.f.now) (g.met.F.Field.laws c.args.f.now) (order_in c.args.h.now) (laws c.args.h.now) sum c.args.p.now s c.args.constant c.in-Some.degree
    ((c.if-not-is_homogeneous.ensures c.args.f.now c.requires.canonical).0 refl) (c.in-Some.ensures.greatest c.args.f.now c.requires.canonical) c.if-degree-eq0.true

pub returns-clause-generator : goal.returns-clause-generator
returns-clause-generator g c =
    positive_generator (g.F.Field.ops c.args.f.now) (g.met.F.Field.laws c.args.f.now) (order_in c.args.h.now) (laws c.args.h.now) c.args.p.now c.requires.canonical c.in-Some.degree c.requires.low
    ((c.if-not-is_homogeneous.ensures c.args.f.now c.requires.canonical).0 refl) (c.in-Some.ensures.greatest c.args.f.now c.requires.canonical) c.if-degree-eq0.false

pub returns-clause-accepted : goal.returns-clause-accepted
returns-clause-accepted g c = λ sum s.
    judged_generator (g.F.Field.ops c.args.f.now) (g.met.F.Field.laws c.args.f.now) (order_in c.args.h.now) (laws c.args.h.now) sum c.args.p.now s c.args.constant (returns-clause-generator g c)

pub returns-in_default-clause-generator : goal.returns-in_default-clause-generator
returns-in_default-clause-generator g c =
    zero_generator (g.F.Field.ops c.args.f.now) (g.met.F.Field.laws c.args.f.now) (order_in c.args.h.now) (laws c.args.h.now) c.args.p.now c.requires.canonical ((rw c.in_default.is at c.degree.ensures.zero).0 refl)

pub returns-in_default-clause-accepted : goal.returns-in_default-clause-accepted
returns-in_default-clause-accepted g c = λ sum s.
    judged_generator (g.F.Field.ops c.args.f.now) (g.met.F.Field.laws c.args.f.now) (order_in c.args.h.now) (laws c.args.h.now) sum c.args.p.now s c.args.constant (returns-in_default-clause-generator g c)
