use Rattle.std.proofs.Common.{◌≤◌, ◌-◌}
use Rattle.word_laws.specs.Words.{word_order_of}
use Rattle.toric_ideal.specs.Alphabet.{letters_of}
use Rattle.toric_ideal.specs.Queue.{IsQueued}
use Rattle.toric_ideal.specs.Step.{IsExtension}
use Rattle.toric_ideal.proofs.growing.grow_to.Given as goal

abbrev pub invariant-degrees : goal.invariant-degrees
invariant-degrees l =
    (l.fn.from ≤ l.degree) × (l.degree ≤ l.to) × IsExtension (letters_of l.alphabet) l.zeros l.fn.from l.degree l.fn.table l.table ×
    IsQueued (word_order_of (letters_of l.alphabet)) l.degree l.queued_count l.table l.pairs

abbrev pub decreases-degrees : goal.decreases-degrees
decreases-degrees l = l.to - l.degree
