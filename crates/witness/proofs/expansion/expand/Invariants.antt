use Rattle.std.proofs.Common.{ℕ, ◌≤◌, ◌↔◌}
use Rattle.polynomials.specs.Polynomial.{AllAt}
use Rattle.poly_core.specs.Presentation.{presented}
use Rattle.witness.specs.Expansion.{IsReplaced, UsesUpTo}
use Rattle.witness.specs.Tracking.{by_order, values_of}
use Rattle.witness.proofs.expansion.expand.Given as goal

abbrev pub invariant-degrees : goal.invariant-degrees
invariant-degrees g l = record {
  replaced : IsReplaced (presented g.F.Field.ops g.O.Order.order l.p) (by_order l.w) (values_of l.s) l.h l.e;
  greatest : (b : ℕ) → l.degree ≤ b ↔ AllAt (UsesUpTo l.k l.w.s_degrees.items b) l.e;
}

abbrev pub decreases-degrees : goal.decreases-degrees
decreases-degrees g l = l.degree
