use Rattle.quotient_gb.specs.CriticalPairs.{HasPairs}
use Rattle.quotient_gb.proofs.critical_pair.critical_pairs.Given as goal

-- the critical pairs of the leads so far are listed
abbrev pub invariant-seconds : goal.invariant-seconds
invariant-seconds g l = HasPairs (g.O.Order.order l.o) l.leads l.fn.start l.second l.pairs.items
