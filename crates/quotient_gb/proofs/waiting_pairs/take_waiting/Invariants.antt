use Rattle.std.proofs.Common.{◌≡◌, ◌++◌, length}
use Rattle.degree_queue.specs.DegreeQueue.{list_of, SameElsewhere}
use Rattle.quotient_gb.proofs.waiting_pairs.take_waiting.Given as goal

-- the items taken out come before those that are left
abbrev pub invariant-items : goal.invariant-items
invariant-items l = record {
  all : l.pairs.items ++ list_of l.waiting l.degree ≡ list_of l.initial.waiting l.degree;
  others : SameElsewhere l.degree l.initial.waiting l.waiting;
}

abbrev pub decreases-items : goal.decreases-items
decreases-items l = length (list_of l.waiting l.degree)
