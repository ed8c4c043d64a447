use Rattle.std.proofs.Common.{length, arith, ap, sym}
use Rattle.linked_terms.proofs.Seeking.{measured, passed_one}
use Rattle.linked_terms.proofs.merging.seek.Goals as goal

pub compare-requires-clause-left : goal.compare-requires-clause-left
compare-requires-clause-left g c =
    (measured (g.O.Order.order c.args.o.now) (g.met.O.Order.laws c.args.o.now) c.args.m.now c.args.list.now c.loop-next.list c.in-Some.next.now c.in-Some.ensures.0
    c.loop-next.invariant c.requires.list c.in-Some.ensures.1).monomial

pub compare-requires-clause-left_degree : goal.compare-requires-clause-left_degree
compare-requires-clause-left_degree g c =
    (measured (g.O.Order.order c.args.o.now) (g.met.O.Order.laws c.args.o.now) c.args.m.now c.args.list.now c.loop-next.list c.in-Some.next.now c.in-Some.ensures.0
    c.loop-next.invariant c.requires.list c.in-Some.ensures.1).small

pub loop-next-smaller : goal.loop-next-smaller
loop-next-smaller g c =
    omega (arith, ap length c.in-Some.ensures.1, ap (λ v. length v.after) (c.advance.ensures c.in-Some.next.now c.in-Some.ensures.0 c.in-Some.ensures.1))

pub loop-next-preserved : goal.loop-next-preserved
loop-next-preserved g c =
    passed_one (g.O.Order.order c.args.o.now) (g.met.O.Order.laws c.args.o.now) c.args.m.now c.args.list.now c.loop-next.list c.advance.new.self c.in-Some.next.now c.in-Some.ensures.0
    c.loop-next.invariant c.in-Some.ensures.1 (sym c.in-Greater.ensures) (c.advance.ensures c.in-Some.next.now c.in-Some.ensures.0 c.in-Some.ensures.1)
