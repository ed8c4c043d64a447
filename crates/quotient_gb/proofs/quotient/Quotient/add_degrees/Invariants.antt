use Rattle.std.proofs.Common.{◌≡◌, ◌≤◌, max}
use Rattle.poly_core.specs.Presentation.{presented}
use Rattle.quotient_gb.specs.CriticalPairs.{Waits}
use Rattle.quotient_gb.specs.Quotient.{IsQuotientOf, IsExtension}
use Rattle.quotient_gb.proofs.quotient.Quotient.add_degrees.Given as goal

-- the degrees so far are done
abbrev pub invariant-degrees : goal.invariant-degrees
invariant-degrees g l = record {
  quotient : IsQuotientOf (presented g.F.Field.ops g.O.Order.order l.p) l.self;
  extension : IsExtension l.initial.self l.self;
  waiting : Waits l.self.degree l.self.pairs l.waiting;
  degree : l.self.degree ≡ l._d;
  most : l._d ≤ max l.initial.self.degree l.c;
}
