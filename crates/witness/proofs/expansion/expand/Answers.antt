use Rattle.std.proofs.Common.{◌≡◌, ◌-◌, ◌≤◌, ◌++◌, length, subst, sym, ◌∙◌, arith}
use Rattle.polynomials.specs.Polynomial.{AllAt, IsDecreasing}
use Rattle.polynomials.specs.Ideal.{Congruent}
use Rattle.polynomials.specs.Value.{value}
use Rattle.poly_core.specs.Presentation.{presented}
use Rattle.witness.specs.Expansion.{IsReplaced, UsesUpTo}
use Rattle.witness.specs.Tracking.{by_order, values_of}
use Rattle.witness.proofs.Replacing.{letter_monomials, replaced_none, replaced_more}
use Rattle.witness.proofs.Fronts.{front_canonical, front_degrees, front_value}
use Rattle.witness.proofs.expansion.expand.Goals as goal
use Rattle.witness.proofs.expansion.expand.Given.{Over}

pub greatest_degree-degree-requires : goal.greatest_degree-degree-requires
greatest_degree-degree-requires g c =
    let P = presented g.F.Field.ops g.O.Order.order c.args.p.now in
    letter_monomials P c.requires.valid.presentation (values_of c.args.s.now) c.args.w.now c.requires.order c.in_ok-e.e
    (subst (IsDecreasing P.field (by_order c.args.w.now)) (sym c.in_ok-e.ensures) c.requires.canonical.decreasing)

pub degrees-init : goal.degrees-init
degrees-init g c =
    let P = presented g.F.Field.ops g.O.Order.order c.args.p.now in
    record {
      replaced = subst (IsReplaced P (by_order c.args.w.now) (values_of c.args.s.now) c.args.h.now) (sym c.in_ok-e.ensures)
          (replaced_none P c.requires.valid.presentation (by_order c.args.w.now) (values_of c.args.s.now) c.args.h.now c.requires.canonical);
      greatest = c.greatest_degree-degree.ensures;
    }

pub replace_degree-requires-clause-greatest : goal.replace_degree-requires-clause-greatest
replace_degree-requires-clause-greatest g c =
    let long : c.len-k.result ≡ length c.args.p.now.generators.items = let a = c.len-k.ensures in let b = c.args.p.now.generators.ok in omega arith in
    subst (λ k. AllAt (UsesUpTo k c.args.w.now.s_degrees.items c.degrees.degree) c.degrees.e) long ((c.degrees.invariant.greatest c.degrees.degree).0 (omega arith))

pub greatest_degree-degree-requires-in-degrees : goal.greatest_degree-degree-requires-in-degrees
greatest_degree-degree-requires-in-degrees g c =
    let P = presented g.F.Field.ops g.O.Order.order c.args.p.now in
    letter_monomials P c.requires.valid.presentation (values_of c.args.s.now) c.args.w.now c.requires.order c.in_ok-next.next c.in_ok-next.ensures.replaced.canonical.decreasing

pub degrees-smaller : goal.degrees-smaller
degrees-smaller g c =
    let long : c.len-k.result ≡ length c.args.p.now.generators.items = let a = c.len-k.ensures in let b = c.args.p.now.generators.ok in omega arith in
    let l = (c.greatest_degree-degree-in-degrees.ensures (c.degrees.degree - 1)).1
    (subst (λ k. AllAt (UsesUpTo k c.args.w.now.s_degrees.items (c.degrees.degree - 1)) c.in_ok-next.next) (sym long) c.in_ok-next.ensures.lower) in
    let p = c.degrees-test.true in
    omega arith

pub degrees-preserved : goal.degrees-preserved
degrees-preserved g c =
    let P = presented g.F.Field.ops g.O.Order.order c.args.p.now in
    record {
      replaced = replaced_more P c.requires.valid.presentation (by_order c.args.w.now) (values_of c.args.s.now) c.args.h.now c.degrees.e c.in_ok-next.next c.degrees.invariant.replaced c.in_ok-next.ensures.replaced;
      greatest = c.greatest_degree-degree-in-degrees.ensures;
    }

none_left : (g : Over) → (c : goal.After-degrees g) → AllAt (UsesUpTo (length c.args.p.now.generators.items) c.args.w.now.s_degrees.items 0) c.degrees.e
none_left g c =
    let long : c.len-k.result ≡ length c.args.p.now.generators.items = let a = c.len-k.ensures in let b = c.args.p.now.generators.ok in omega arith in
    subst (λ k. AllAt (UsesUpTo k c.args.w.now.s_degrees.items 0) c.degrees.e) long ((c.degrees.invariant.greatest 0).0 (let p = c.degrees-test.false in omega arith))

pub returns-clause-canonical : goal.returns-clause-canonical
returns-clause-canonical g c =
    let P = presented g.F.Field.ops g.O.Order.order c.args.p.now in
    let V = c.requires.valid in
    front_canonical P V.presentation.field (values_of c.args.s.now) c.args.w.now c.args.p.now.gen_order c.requires.order V.no_x V.degrees c.degrees.e c.degrees.invariant.replaced.canonical (none_left g c)

pub returns-clause-value : goal.returns-clause-value
returns-clause-value g c =
    let P = presented g.F.Field.ops g.O.Order.order c.args.p.now in
    let V = c.requires.valid in
    subst (Congruent P.field P.order.places P.ideal (value P.field c.args.h.now (P.generators ++ values_of c.args.s.now)))
    (front_value P V.presentation.field (values_of c.args.s.now) c.args.w.now c.args.p.now.gen_order c.requires.order V.no_x V.degrees c.degrees.e c.degrees.invariant.replaced.canonical (none_left g c))
    c.degrees.invariant.replaced.value

pub returns-clause-degrees : goal.returns-clause-degrees
returns-clause-degrees g c d h m n =
    let P = presented g.F.Field.ops g.O.Order.order c.args.p.now in
    let V = c.requires.valid in
    subst (λ x. x ≤ d)
    (front_degrees P V.presentation.field (values_of c.args.s.now) c.args.w.now c.args.p.now.gen_order c.requires.order V.no_x V.degrees c.degrees.e c.degrees.invariant.replaced.canonical (none_left g c) m n)
    (c.degrees.invariant.replaced.degrees d h m n)

pub returns-clause-graded : goal.returns-clause-graded
returns-clause-graded g c d h m n =
    let P = presented g.F.Field.ops g.O.Order.order c.args.p.now in
    let V = c.requires.valid in
    sym (front_degrees P V.presentation.field (values_of c.args.s.now) c.args.w.now c.args.p.now.gen_order c.requires.order V.no_x V.degrees c.degrees.e c.degrees.invariant.replaced.canonical (none_left g c) m n) ∙
    c.degrees.invariant.replaced.graded d h m n
