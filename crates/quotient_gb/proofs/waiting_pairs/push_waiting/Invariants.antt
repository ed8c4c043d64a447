use Rattle.std.proofs.Common.{take}
use Rattle.quotient_gb.specs.CriticalPairs.{IsFilled}
use Rattle.quotient_gb.proofs.waiting_pairs.push_waiting.Given as goal

-- the pairs so far are in the queue
abbrev pub invariant-pairs : goal.invariant-pairs
invariant-pairs l = IsFilled l.initial.waiting (take l.w-index l.pairs) l.waiting
