use Rattle.std.proofs.Common.{length}
use Rattle.degree_queue.specs.DegreeQueue.{list_of, SameElsewhere}
use Rattle.completion.proofs.candidates.clear_degree.Given as goal

abbrev pub invariant-items : goal.invariant-items
invariant-items l = SameElsewhere l.d l.initial.queue l.queue

abbrev pub decreases-items : goal.decreases-items
decreases-items l = length (list_of l.queue l.d)
