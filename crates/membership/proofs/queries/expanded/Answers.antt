use Rattle.std.proofs.Common.{subst}
use Rattle.poly_core.specs.Presentation.{presented}
use Rattle.polynomials.specs.Polynomial.{IsPoly}
use Rattle.polynomials.specs.laws.Decreasing.{IsDecreasing_IsPoly}
use Rattle.witness.specs.Tracking.{by_order, values_of}
use Rattle.membership.proofs.Expansions.{expands_same, gen_places, less_same, negated_degrees}
use Rattle.membership.proofs.queries.expanded.Goals as goal

pub sub-requires-clause-b : goal.sub-requires-clause-b
sub-requires-clause-b g c = rw c.by_order-order.ensures c.requires.canonical

pub expand-requires-clause-order : goal.expand-requires-clause-order
expand-requires-clause-order g c = rw (c.elements.ensures, c.by_order-order.ensures) c.requires.basis.by_order

pub expand-requires-clause-elements : goal.expand-requires-clause-elements
expand-requires-clause-elements g c = rw (c.elements.ensures, c.by_order-order.ensures)
    (λ j z l. (c.requires.basis.elements j z l).tracked)

pub expand-requires-clause-small : goal.expand-requires-clause-small
expand-requires-clause-small g c =
    let P = presented g.F.Field.ops g.O.Order.order c.args.p.now in
    let H = c.requires.presentation.presentation in
    rw c.by_order-order.ensures
    (negated_degrees P H (by_order c.args.basis.now.by_order) c.in_ok-negative.negative c.args.by.now
    (less_same P H c.in_ok-negative.negative c.zero.result c.args.by.now
    c.zero.ensures c.in_ok-negative.ensures.difference) 30000 c.requires.small)

pub returns-clause-poly : goal.returns-clause-poly
returns-clause-poly g c =
    let P = presented g.F.Field.ops g.O.Order.order c.args.p.now in
    subst (λ n. IsPoly P.field n c.in_ok-expansion.expansion)
    (gen_places g.F.Field.ops g.O.Order.order c.args.p.now c.requires.presentation)
    (IsDecreasing_IsPoly P.field
    (by_order c.args.p.now.gen_order) c.in_ok-expansion.expansion c.in_ok-expansion.ensures.canonical.decreasing)

pub returns-clause-value : goal.returns-clause-value
returns-clause-value g c =
    let P = presented g.F.Field.ops g.O.Order.order c.args.p.now in
    let H = c.requires.presentation.presentation in
    let K = P.field in
    expands_same P H (values_of c.args.basis.now.elements) c.in_ok-negative.negative
    (Rattle.polynomials.specs.Polynomial.negated K c.args.by.now) c.in_ok-expansion.expansion
    (less_same P H c.in_ok-negative.negative c.zero.result c.args.by.now
    c.zero.ensures c.in_ok-negative.ensures.difference)
    (rw c.elements.ensures at c.in_ok-expansion.ensures.value)
