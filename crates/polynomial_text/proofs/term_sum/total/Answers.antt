use Rattle.polynomial_text.specs.LineReading.{terms_together}
use Rattle.polynomial_text.proofs.LineSums.{canonical_rest, canonical_taken, summed}
use Rattle.polynomial_text.proofs.term_sum.total.Goals as goal

pub add_taking-requires-clause-a : goal.add_taking-requires-clause-a
add_taking-requires-clause-a g c =
    canonical_taken (g.F.Field.ops c.args.f.now) (g.O.Order.order c.args.o.now) c.loop-p.stack.items c.pop.new.self.items c.in-Some.p c.loop-p.invariant.stack c.in-Some.ensures.items

pub loop-p-preserved : goal.loop-p-preserved
loop-p-preserved g c = record {
  stack = canonical_rest (g.F.Field.ops c.args.f.now) (g.O.Order.order c.args.o.now) c.loop-p.stack.items c.pop.new.self.items c.in-Some.p c.loop-p.invariant.stack c.in-Some.ensures.items;
  canonical = c.in_ok-sum.ensures.canonical;
  same = summed (g.F.Field.ops c.args.f.now) (g.met.F.Field.laws c.args.f.now) c.loop-p.stack.items c.pop.new.self.items c.in-Some.p c.loop-p.sum c.in_ok-sum.sum (terms_together c.args.stack.items) c.in-Some.ensures.items c.in_ok-sum.ensures.sum c.loop-p.invariant.same;
}
