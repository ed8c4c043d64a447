use Rattle.std.proofs.Common.{◌++◌, length}
use Rattle.polynomials.specs.Polynomial.{IsCanonical, Same}
use Rattle.polynomial_text.specs.LineReading.{AreCanonical, terms_together}
use Rattle.polynomial_text.proofs.term_sum.total.Given as goal

abbrev pub invariant-loop-p : goal.invariant-loop-p
invariant-loop-p g l = record {
  stack : AreCanonical (g.F.Field.ops l.f) (g.O.Order.order l.o) l.stack.items;
  canonical : IsCanonical (g.F.Field.ops l.f) (g.O.Order.order l.o) l.sum;
  same : Same (g.F.Field.ops l.f) (terms_together l.stack.items ++ l.sum) (terms_together l.fn.stack.items);
}

abbrev pub decreases-loop-p : goal.decreases-loop-p
decreases-loop-p g l = length l.stack.items
