use Rattle.std.proofs.Common.{◌++◌, length}
use Rattle.polynomials.specs.Polynomial.{IsCanonical, Same}
use Rattle.polynomial_text.specs.LineReading.{AreCanonical, terms_together}
use Rattle.polynomial_text.proofs.term_sum.push_poly.Given as goal

abbrev pub invariant-loop-below : goal.invariant-loop-below
invariant-loop-below g l = record {
  stack : AreCanonical (g.F.Field.ops l.f) (g.O.Order.order l.o) l.stack.items;
  canonical : IsCanonical (g.F.Field.ops l.f) (g.O.Order.order l.o) l.sum;
  same : Same (g.F.Field.ops l.f) (terms_together l.stack.items ++ l.sum) (terms_together l.fn.stack.items ++ l.fn.p);
}

abbrev pub decreases-loop-below : goal.decreases-loop-below
decreases-loop-below g l = length l.stack.items
