use Rattle.degree_queue.specs.DegreeQueue.{list_of, SameElsewhere}
use Rattle.poly_core.specs.Presentation.{presented}
use Rattle.completion.proofs.QueuedCandidates.{AreFirst}
use Rattle.completion.proofs.candidates.queue_generators.Given as goal

abbrev pub invariant-generators : goal.invariant-generators
invariant-generators g l = record {
  first : AreFirst (presented g.F.Field.ops g.O.Order.order l.p) l.d l.i (list_of l.queue l.d);
  others : SameElsewhere l.d l.initial.queue l.queue;
}
