use Rattle.std.proofs.Common.{◌≡◌, true, length}
use Rattle.poly_core.specs.Presentation.{presented}
use Rattle.completion.specs.Completion.{pending_of, AreKept, IsCompletion}
use Rattle.completion.proofs.completion.Completion.take_all.Given as goal

abbrev pub invariant-candidates : goal.invariant-candidates
invariant-candidates g l = record {
  completion : IsCompletion g.F.Field.ops g.O.Order.order l.self;
  begun : l.self.begun ≡ true;
  degree : l.self.degree ≡ l.initial.self.degree;
  kept : AreKept (presented g.F.Field.ops g.O.Order.order l.initial.self.presentation) l.initial.self l.self;
}

abbrev pub decreases-candidates : goal.decreases-candidates
decreases-candidates g l = length (pending_of l.self)
