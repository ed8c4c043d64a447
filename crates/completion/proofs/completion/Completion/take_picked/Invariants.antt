use Rattle.std.proofs.Common.{◌≡◌, true}
use Rattle.poly_core.specs.Presentation.{presented}
use Rattle.completion.specs.Completion.{AreKept, IsCompletion}
use Rattle.completion.proofs.completion.Completion.take_picked.Given as goal

abbrev pub invariant-picks : goal.invariant-picks
invariant-picks g l = record {
  completion : IsCompletion g.F.Field.ops g.O.Order.order l.self;
  begun : l.self.begun ≡ true;
  degree : l.self.degree ≡ l.initial.self.degree;
  kept : AreKept (presented g.F.Field.ops g.O.Order.order l.initial.self.presentation) l.initial.self l.self;
}
