use Rattle.std.proofs.Common.{◌-◌}
use Rattle.toric_ideal.proofs.IncreasingLists.{IsSearched}
use Rattle.toric_ideal.proofs.increasing.insertion_index.Given as goal

abbrev pub invariant-seek : goal.invariant-seek
invariant-seek g l = IsSearched (g.O.Order.order l.o) (g.met.O.Order.laws l.o) l.list l.m l.low l.high

abbrev pub decreases-seek : goal.decreases-seek
decreases-seek g l = l.high - l.low
