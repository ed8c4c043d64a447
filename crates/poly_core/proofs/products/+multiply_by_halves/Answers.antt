use Rattle.std.proofs.Common.{◌≡◌, arith, subst, sym, ◌++◌}
use Rattle.polynomials.specs.Polynomial.{term_of, scaled, times, IsCanonical, Same}
use Rattle.poly_core.proofs.Steps.{if_ok, single, canonical_one, canonical_front, canonical_back, small_front, small_back, halves}
use Rattle.poly_core.proofs.products.+multiply_by_halves.Goals as goal

pub multiply_by_halves-requires : goal.multiply_by_halves-requires
multiply_by_halves-requires g t c κs within = (
  omega arith,
  (within.0, (within.1.0, (within.1.1, (canonical_front (g.F.Field.ops c.args.f.now) (g.met.F.Field.laws c.args.f.now) (g.O.Order.order c.args.o.now) (g.met.O.Order.laws c.args.o.now) c.args.a.now c.args.b.now c.requires.a c.requires.b c.requires.small c.split_at.result.0.now c.split_at.result.1.now c.split_at.ensures.by_index.0, (c.requires.b, (small_front (g.F.Field.ops c.args.f.now) (g.met.F.Field.laws c.args.f.now) (g.O.Order.order c.args.o.now) (g.met.O.Order.laws c.args.o.now) c.args.a.now c.args.b.now c.requires.a c.requires.b c.requires.small c.split_at.result.0.now c.split_at.result.1.now c.split_at.ensures.by_index.0)))))),
)

pub multiply_by_halves-requires-in_default : goal.multiply_by_halves-requires-in_default
multiply_by_halves-requires-in_default g t c κs within = (
  omega arith,
  (within.0, (within.1.0, (within.1.1, (canonical_back (g.F.Field.ops c.args.f.now) (g.met.F.Field.laws c.args.f.now) (g.O.Order.order c.args.o.now) (g.met.O.Order.laws c.args.o.now) c.args.a.now c.args.b.now c.requires.a c.requires.b c.requires.small c.split_at.result.0.now c.split_at.result.1.now c.split_at.ensures.by_index.0, (c.requires.b, (small_back (g.F.Field.ops c.args.f.now) (g.met.F.Field.laws c.args.f.now) (g.O.Order.order c.args.o.now) (g.met.O.Order.laws c.args.o.now) c.args.a.now c.args.b.now c.requires.a c.requires.b c.requires.small c.split_at.result.0.now c.split_at.result.1.now c.split_at.ensures.by_index.0)))))),
)

pub returns-in-len1-clause-canonical : goal.returns-in-len1-clause-canonical
returns-in-len1-clause-canonical g t c =
    if_ok (λ r. r.items ≡ scaled (g.F.Field.ops c.args.f.now) (term_of c.t-item.result.at c.t-item.result.by) c.args.b.now) (λ r. IsCanonical (g.F.Field.ops c.args.f.now) (g.O.Order.order c.args.o.now) r.items) c.times_terms.result
    (λ r e. subst (IsCanonical (g.F.Field.ops c.args.f.now) (g.O.Order.order c.args.o.now)) (sym e) (canonical_one (g.F.Field.ops c.args.f.now) (g.met.F.Field.laws c.args.f.now) (g.O.Order.order c.args.o.now) (g.met.O.Order.laws c.args.o.now) c.args.a.now c.args.b.now c.requires.a c.requires.b c.requires.small c.t-item.result (single c.args.a.now c.t-item.result (omega arith) (omega arith) c.t-item.is)))
    c.times_terms.ensures

pub returns-in_ok-smaller-in_default-clause-product : goal.returns-in_ok-smaller-in_default-clause-product
returns-in_ok-smaller-in_default-clause-product g t c =
    if_ok (λ r. Same (g.F.Field.ops c.args.f.now) r.items (c.in_ok-greater-in_default.greater.items ++ c.in_ok-smaller-in_default.smaller.items))
    (λ r. Same (g.F.Field.ops c.args.f.now) r.items (times (g.F.Field.ops c.args.f.now) c.args.a.now c.args.b.now)) c.merge.result
    (λ r. halves (g.F.Field.ops c.args.f.now) (g.met.F.Field.laws c.args.f.now) (g.O.Order.order c.args.o.now) (g.met.O.Order.laws c.args.o.now) c.args.a.now c.args.b.now c.requires.a c.requires.b c.requires.small c.split_at.result.0.now c.split_at.result.1.now c.split_at.ensures.by_index.0 c.in_ok-greater-in_default.greater.items c.in_ok-smaller-in_default.smaller.items r.items
    c.in_ok-greater-in_default.ensures.product c.in_ok-smaller-in_default.ensures.product)
    c.merge.ensures.sum
