use Rattle.toric_ideal.specs.SortedRules.{words_of}
use Rattle.toric_ideal.proofs.IncreasingLists.{IsSearched}
use Rattle.std.proofs.Common.{◌-◌}
use Rattle.toric_ideal.proofs.sorting.insertion_index.Given as goal

abbrev pub invariant-seek : goal.invariant-seek
invariant-seek g l = IsSearched (g.O.Order.order l.o) (g.met.O.Order.laws l.o) (words_of l.rules) l.word l.low l.high

abbrev pub decreases-seek : goal.decreases-seek
decreases-seek g l = l.high - l.low
