use Rattle.std.proofs.Common.{length}
use Rattle.linked_terms.specs.Merging.{HasPassed}
use Rattle.linked_terms.proofs.merging.seek.Given as goal

abbrev pub invariant-loop-next : goal.invariant-loop-next
invariant-loop-next g l = HasPassed (g.O.Order.order l.o) l.m l.initial.list l.list

abbrev pub decreases-loop-next : goal.decreases-loop-next
decreases-loop-next g l = length l.list.after
