use Rattle.std.proofs.Common.{◌≡◌, ◌-◌, arith, sym, ap, subst, ◌∙◌}
use Rattle.polynomials.specs.Polynomial.{coefficient, IsCanonical, IsSmall, times}
use Rattle.poly_core.proofs.Evaluating.{partial_at_end, place_skipped, place_power, place_small, place_multiplied}
use Rattle.poly_core.proofs.values.value_of_term.Goals as goal

pub places-init : goal.places-init
places-init g c = record {
  within = omega arith;
  partial = partial_at_end (g.F.Field.ops c.args.f.now) (g.met.F.Field.laws c.args.f.now) (g.O.Order.order c.args.o.now) (g.met.O.Order.laws c.args.o.now) c.args.t.now.by c.args.t.now.at c.args.at.now c.places-place.result c.in_ok-product.product.items c.places-place.ensures.length
      c.in_ok-product.ensures.canonical c.in_ok-product.ensures.constant c.in_ok-product.ensures.degree;
}

pub multiply-requires-clause-a : goal.multiply-requires-clause-a
multiply-requires-clause-a g c =
    subst (IsCanonical (g.F.Field.ops c.args.f.now) (g.O.Order.order c.args.o.now)) (sym c.terms.ensures)
    (place_power (g.F.Field.ops c.args.f.now) (g.met.F.Field.laws c.args.f.now) (g.O.Order.order c.args.o.now) (g.met.O.Order.laws c.args.o.now) c.args.t.now.by c.args.t.now.at c.args.at.now c.args.table.now c.requires.at c.requires.table c.requires.reached (c.places.place - 1) c.places.place (omega arith) (omega arith) (let w = c.requires.term.monomial.within in omega arith) c.places.product.items c.places.invariant.partial
    c.index-at-place.result c.index-table-place.result c.exponent-e.result c.power-power.result.now c.index-at-place.is c.index-table-place.is c.exponent-e.ensures (omega arith) c.power-power.ensures.first c.power-power.ensures.next).canonical

pub multiply-requires-clause-small : goal.multiply-requires-clause-small
multiply-requires-clause-small g c =
    subst (λ x. IsSmall (g.O.Order.order c.args.o.now) (times (g.F.Field.ops c.args.f.now) x c.as_slice.result.now)) (sym c.terms.ensures)
    (subst (λ x. IsSmall (g.O.Order.order c.args.o.now) (times (g.F.Field.ops c.args.f.now) c.power-power.result.now x)) (sym c.as_slice.ensures.value)
    (place_small (g.F.Field.ops c.args.f.now) (g.met.F.Field.laws c.args.f.now) (g.O.Order.order c.args.o.now) (g.met.O.Order.laws c.args.o.now) c.args.t.now.by c.args.t.now.at c.args.at.now c.args.table.now c.requires.at c.requires.table c.requires.reached (c.places.place - 1) c.places.place (omega arith) (omega arith) (let w = c.requires.term.monomial.within in omega arith) c.places.product.items c.places.invariant.partial
    c.index-at-place.result c.index-table-place.result c.exponent-e.result c.power-power.result.now c.index-at-place.is c.index-table-place.is c.exponent-e.ensures (omega arith) c.power-power.ensures.first c.power-power.ensures.next c.requires.small))

pub places-preserved-then-e-gt0 : goal.places-preserved-then-e-gt0
places-preserved-then-e-gt0 g c = record {
  within = omega arith;
  partial = place_multiplied (g.F.Field.ops c.args.f.now) (g.met.F.Field.laws c.args.f.now) (g.O.Order.order c.args.o.now) (g.met.O.Order.laws c.args.o.now) c.args.t.now.by c.args.t.now.at c.args.at.now c.args.table.now c.requires.at c.requires.table c.requires.reached (c.places.place - 1) c.places.place (omega arith) (omega arith) (let w = c.requires.term.monomial.within in omega arith) c.places.product.items c.places.invariant.partial
      c.index-at-place.result c.index-table-place.result c.exponent-e.result c.power-power.result.now c.index-at-place.is c.index-table-place.is c.exponent-e.ensures (omega arith) c.power-power.ensures.first c.power-power.ensures.next
      c.in_ok-next.next.items c.in_ok-next.ensures.canonical
      (λ n. c.in_ok-next.ensures.product n ∙
      ap (λ x. coefficient (g.F.Field.ops c.args.f.now) x n) (ap (λ x. times (g.F.Field.ops c.args.f.now) x c.as_slice.result.now) c.terms.ensures ∙ ap (times (g.F.Field.ops c.args.f.now) c.power-power.result.now) c.as_slice.ensures.value));
}

pub places-preserved : goal.places-preserved
places-preserved g c = record {
  within = omega arith;
  partial = place_skipped (g.F.Field.ops c.args.f.now) (g.met.F.Field.laws c.args.f.now) (g.O.Order.order c.args.o.now) (g.met.O.Order.laws c.args.o.now) c.args.t.now.by c.args.t.now.at c.args.at.now c.args.table.now c.requires.at c.requires.table c.requires.reached (c.places.place - 1) c.places.place (omega arith) (omega arith) (let w = c.requires.term.monomial.within in omega arith) c.places.product.items c.places.invariant.partial (let z = c.exponent-e.ensures in let y : c.exponent-e.result ≡ 0 = omega arith in sym y ∙ z);
}
