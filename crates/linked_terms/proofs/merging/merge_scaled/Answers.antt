use Rattle.std.proofs.Common.{length, arith, ap, sym, ◌∙◌}
use Rattle.std.proofs.lemmas.Bool.{true≢false}
use Rattle.monomial_order.specs.laws.Monomial.{length-product, product_fits}
use Rattle.word_field.specs.Field.{IsValue}
use Rattle.polynomials.specs.Polynomial.{term_of, IsMeasured}
use Rattle.polynomials.specs.laws.Terms.{all_at, canonical_measured, decreasing_values, small_scaled_at}
use Rattle.linked_terms.proofs.Scaling.{merging_start, next_term, next_nonzero, next_small, merging_more, at_most, product_is, product_nothing}
use Rattle.linked_terms.proofs.merging.merge_scaled.Goals as goal

pub loop-t-init : goal.loop-t-init
loop-t-init g c =
    merging_start (g.F.Field.ops c.args.f.now) (g.met.F.Field.laws c.args.f.now) (g.O.Order.order c.args.o.now) (g.met.O.Order.laws c.args.o.now)
    (term_of c.args.m.now c.args.c) c.args.terms.now c.args.list.now c.requires.start c.requires.list c.requires.spare

pub mul-by-requires-clause-right : goal.mul-by-requires-clause-right
mul-by-requires-clause-right g c =
    all_at (λ t. IsValue (g.F.Field.ops c.args.f.now) t.by) c.args.terms.now c.loop-t.t-index c.t-item.result
    (decreasing_values (g.F.Field.ops c.args.f.now) (g.O.Order.order c.args.o.now) c.args.terms.now c.requires.terms.decreasing) (omega arith) c.t-item.is

pub times-requires : goal.times-requires
times-requires g c = record {
  fits = product_fits (g.O.Order.order c.args.o.now) (g.met.O.Order.laws c.args.o.now) c.args.m.now c.t-item.result.at
      c.requires.term.monomial
      (all_at (IsMeasured (g.O.Order.order c.args.o.now)) c.args.terms.now c.loop-t.t-index c.t-item.result
      (canonical_measured (g.F.Field.ops c.args.f.now) (g.O.Order.order c.args.o.now) c.args.terms.now c.requires.terms) (omega arith) c.t-item.is).monomial
      (small_scaled_at (g.F.Field.ops c.args.f.now) (g.O.Order.order c.args.o.now) (term_of c.args.m.now c.args.c) c.args.terms.now c.loop-t.t-index c.t-item.result c.requires.small (omega arith) c.t-item.is);
}

pub unreachable-requires : goal.unreachable-requires
unreachable-requires g c =
    true≢false (sym (c.in_default.ensures.short c.requires.short (at_most 32 c.args.terms.now c.loop-t.t-index c.t-item.result c.requires.short_terms (omega arith) c.t-item.is)))

pub add_term-requires-clause-term : goal.add_term-requires-clause-term
add_term-requires-clause-term g c =
    next_term (g.F.Field.ops c.args.f.now) (g.met.F.Field.laws c.args.f.now) (g.O.Order.order c.args.o.now) (g.met.O.Order.laws c.args.o.now)
    (term_of c.args.m.now c.args.c) c.args.terms.now c.args.list.now c.requires.terms c.requires.term c.requires.nonzero c.requires.small
    c.loop-t.t-index c.t-item.result (omega arith) c.t-item.is (term_of c.t-item.result.at c.mul-by.result)
    (product_is (g.F.Field.ops c.args.f.now) c.args.m.now c.t-item.result.at c.args.c c.mul-by.result c.t-item.result (product_nothing c.args.m.now c.t-item.result.at (sym c.places.ensures.length ∙ c.if-places-eq0.true)) c.mul-by.ensures) c.loop-t.list c.loop-t.invariant

pub add_term-requires-clause-nonzero : goal.add_term-requires-clause-nonzero
add_term-requires-clause-nonzero g c =
    next_nonzero (g.F.Field.ops c.args.f.now) (g.met.F.Field.laws c.args.f.now) (g.O.Order.order c.args.o.now) (g.met.O.Order.laws c.args.o.now)
    (term_of c.args.m.now c.args.c) c.args.terms.now c.args.list.now c.requires.terms c.requires.term c.requires.nonzero c.requires.small
    c.loop-t.t-index c.t-item.result (omega arith) c.t-item.is (term_of c.t-item.result.at c.mul-by.result)
    (product_is (g.F.Field.ops c.args.f.now) c.args.m.now c.t-item.result.at c.args.c c.mul-by.result c.t-item.result (product_nothing c.args.m.now c.t-item.result.at (sym c.places.ensures.length ∙ c.if-places-eq0.true)) c.mul-by.ensures) c.loop-t.list c.loop-t.invariant

pub add_term-requires-clause-small : goal.add_term-requires-clause-small
add_term-requires-clause-small g c =
    next_small (g.F.Field.ops c.args.f.now) (g.met.F.Field.laws c.args.f.now) (g.O.Order.order c.args.o.now) (g.met.O.Order.laws c.args.o.now)
    (term_of c.args.m.now c.args.c) c.args.terms.now c.args.list.now c.requires.terms c.requires.term c.requires.nonzero c.requires.small
    c.loop-t.t-index c.t-item.result (omega arith) c.t-item.is (term_of c.t-item.result.at c.mul-by.result)
    (product_is (g.F.Field.ops c.args.f.now) c.args.m.now c.t-item.result.at c.args.c c.mul-by.result c.t-item.result (product_nothing c.args.m.now c.t-item.result.at (sym c.places.ensures.length ∙ c.if-places-eq0.true)) c.mul-by.ensures) c.loop-t.list c.loop-t.invariant

pub add_term-requires-clause-short : goal.add_term-requires-clause-short
add_term-requires-clause-short g c =
    at_most 32 c.args.terms.now c.loop-t.t-index c.t-item.result c.requires.short_terms (omega arith) c.t-item.is

pub loop-t-preserved-then-places-eq0 : goal.loop-t-preserved-then-places-eq0
loop-t-preserved-then-places-eq0 g c =
    merging_more (g.F.Field.ops c.args.f.now) (g.met.F.Field.laws c.args.f.now) (g.O.Order.order c.args.o.now) (g.met.O.Order.laws c.args.o.now)
    (term_of c.args.m.now c.args.c) c.args.terms.now c.args.list.now c.requires.terms c.requires.term c.requires.nonzero c.requires.small
    c.loop-t.t-index c.t-item.result (omega arith) c.t-item.is (term_of c.t-item.result.at c.mul-by.result)
    (product_is (g.F.Field.ops c.args.f.now) c.args.m.now c.t-item.result.at c.args.c c.mul-by.result c.t-item.result (product_nothing c.args.m.now c.t-item.result.at (sym c.places.ensures.length ∙ c.if-places-eq0.true)) c.mul-by.ensures) c.loop-t.list c.loop-t.invariant
    c.add_term.new.list c.add_term.ensures

pub add_term-requires-in-loop-t-clause-term : goal.add_term-requires-in-loop-t-clause-term
add_term-requires-in-loop-t-clause-term g c =
    next_term (g.F.Field.ops c.args.f.now) (g.met.F.Field.laws c.args.f.now) (g.O.Order.order c.args.o.now) (g.met.O.Order.laws c.args.o.now)
    (term_of c.args.m.now c.args.c) c.args.terms.now c.args.list.now c.requires.terms c.requires.term c.requires.nonzero c.requires.small
    c.loop-t.t-index c.t-item.result (omega arith) c.t-item.is (term_of c.in-Ok.at c.mul-by.result)
    (product_is (g.F.Field.ops c.args.f.now) c.args.m.now c.in-Ok.at c.args.c c.mul-by.result c.t-item.result c.in-Ok.ensures.product c.mul-by.ensures) c.loop-t.list c.loop-t.invariant

pub add_term-requires-in-loop-t-clause-nonzero : goal.add_term-requires-in-loop-t-clause-nonzero
add_term-requires-in-loop-t-clause-nonzero g c =
    next_nonzero (g.F.Field.ops c.args.f.now) (g.met.F.Field.laws c.args.f.now) (g.O.Order.order c.args.o.now) (g.met.O.Order.laws c.args.o.now)
    (term_of c.args.m.now c.args.c) c.args.terms.now c.args.list.now c.requires.terms c.requires.term c.requires.nonzero c.requires.small
    c.loop-t.t-index c.t-item.result (omega arith) c.t-item.is (term_of c.in-Ok.at c.mul-by.result)
    (product_is (g.F.Field.ops c.args.f.now) c.args.m.now c.in-Ok.at c.args.c c.mul-by.result c.t-item.result c.in-Ok.ensures.product c.mul-by.ensures) c.loop-t.list c.loop-t.invariant

pub add_term-requires-in-loop-t-clause-small : goal.add_term-requires-in-loop-t-clause-small
add_term-requires-in-loop-t-clause-small g c =
    next_small (g.F.Field.ops c.args.f.now) (g.met.F.Field.laws c.args.f.now) (g.O.Order.order c.args.o.now) (g.met.O.Order.laws c.args.o.now)
    (term_of c.args.m.now c.args.c) c.args.terms.now c.args.list.now c.requires.terms c.requires.term c.requires.nonzero c.requires.small
    c.loop-t.t-index c.t-item.result (omega arith) c.t-item.is (term_of c.in-Ok.at c.mul-by.result)
    (product_is (g.F.Field.ops c.args.f.now) c.args.m.now c.in-Ok.at c.args.c c.mul-by.result c.t-item.result c.in-Ok.ensures.product c.mul-by.ensures) c.loop-t.list c.loop-t.invariant

pub add_term-requires-in-loop-t-clause-short : goal.add_term-requires-in-loop-t-clause-short
add_term-requires-in-loop-t-clause-short g c =
    let few = at_most 32 c.args.terms.now c.loop-t.t-index c.t-item.result c.requires.short_terms (omega arith) c.t-item.is in
    let shape = length-product c.args.m.now c.t-item.result.at in
    let here = ap length c.in-Ok.ensures.product in
    let more = c.requires.short in
    omega arith

pub loop-t-preserved : goal.loop-t-preserved
loop-t-preserved g c =
    merging_more (g.F.Field.ops c.args.f.now) (g.met.F.Field.laws c.args.f.now) (g.O.Order.order c.args.o.now) (g.met.O.Order.laws c.args.o.now)
    (term_of c.args.m.now c.args.c) c.args.terms.now c.args.list.now c.requires.terms c.requires.term c.requires.nonzero c.requires.small
    c.loop-t.t-index c.t-item.result (omega arith) c.t-item.is (term_of c.in-Ok.at c.mul-by.result)
    (product_is (g.F.Field.ops c.args.f.now) c.args.m.now c.in-Ok.at c.args.c c.mul-by.result c.t-item.result c.in-Ok.ensures.product c.mul-by.ensures) c.loop-t.list c.loop-t.invariant
    c.add_term-in-loop-t.new.list c.add_term-in-loop-t.ensures
