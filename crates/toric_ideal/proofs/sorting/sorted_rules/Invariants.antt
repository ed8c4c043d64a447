use Rattle.toric_ideal.specs.SortedRules.{AreSortedRules}
use Rattle.toric_ideal.proofs.sorting.sorted_rules.Given as goal

abbrev pub invariant-rules : goal.invariant-rules
invariant-rules g l = AreSortedRules (g.O.Order.order l.o) l.table l.first l.i l.rules.items
