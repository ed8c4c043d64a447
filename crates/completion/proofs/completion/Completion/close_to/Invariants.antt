use Rattle.std.proofs.Common.{◌≡◌, ◌≤◌, ◌-◌, max, false}
use Rattle.poly_core.specs.Presentation.{presented}
use Rattle.completion.specs.Completion.{AreKept, IsCompletion}
use Rattle.completion.proofs.completion.Completion.close_to.Given as goal

abbrev pub invariant-degrees : goal.invariant-degrees
invariant-degrees g l = record {
  completion : IsCompletion g.F.Field.ops g.O.Order.order l.self;
  not_begun : l.self.begun ≡ false;
  from : l.initial.self.degree ≤ l.self.degree;
  to : l.self.degree ≤ max l.d l.initial.self.degree;
  kept : AreKept (presented g.F.Field.ops g.O.Order.order l.initial.self.presentation) l.initial.self l.self;
}

abbrev pub decreases-degrees : goal.decreases-degrees
decreases-degrees g l = l.d - l.self.degree
