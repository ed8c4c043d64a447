use Rattle.toric_ideal.proofs.IncreasingLists.{IsSortedSoFar}
use Rattle.toric_ideal.proofs.increasing.sorted.Given as goal

abbrev pub invariant-list : goal.invariant-list
invariant-list g l = IsSortedSoFar (g.O.Order.order l.o) l.list l.m-index l.increasing.items
