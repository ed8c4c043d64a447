use Rattle.std.proofs.Common.{◌++◌, refl}
use Rattle.polynomial_text.specs.LineReading.{terms_together}
use Rattle.polynomial_text.proofs.LineSums.{canonical_rest, canonical_taken, canonical_put, summed}
use Rattle.polynomial_text.proofs.term_sum.push_poly.Goals as goal

pub add_taking-requires-clause-a : goal.add_taking-requires-clause-a
add_taking-requires-clause-a g c =
    canonical_taken (g.F.Field.ops c.args.f.now) (g.O.Order.order c.args.o.now) c.loop-below.stack.items c.take_short.new.stack.items c.in-Some.below c.loop-below.invariant.stack c.in-Some.ensures.some

pub loop-below-preserved : goal.loop-below-preserved
loop-below-preserved g c = record {
  stack = canonical_rest (g.F.Field.ops c.args.f.now) (g.O.Order.order c.args.o.now) c.loop-below.stack.items c.take_short.new.stack.items c.in-Some.below c.loop-below.invariant.stack c.in-Some.ensures.some;
  canonical = c.in_ok-sum.ensures.canonical;
  same = summed (g.F.Field.ops c.args.f.now) (g.met.F.Field.laws c.args.f.now) c.loop-below.stack.items c.take_short.new.stack.items c.in-Some.below c.loop-below.sum c.in_ok-sum.sum (terms_together c.args.stack.now.items ++ c.args.p) c.in-Some.ensures.some c.in_ok-sum.ensures.sum c.loop-below.invariant.same;
}

pub returns-clause-canonical : goal.returns-clause-canonical
returns-clause-canonical g c =
    canonical_put (g.F.Field.ops c.args.f.now) (g.O.Order.order c.args.o.now) c.loop-below.stack.items c.take_short.new.stack.items c.push.new.self.items c.loop-below.sum c.loop-below.invariant.stack c.loop-below.invariant.canonical (c.in_default.ensures.none refl) c.in_ok-push.ensures.items
