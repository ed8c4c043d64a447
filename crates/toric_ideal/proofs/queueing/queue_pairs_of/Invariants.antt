use Rattle.std.proofs.Common.{take}
use Rattle.word_laws.specs.Words.{word_order_of}
use Rattle.toric_ideal.specs.Alphabet.{letters_of}
use Rattle.toric_ideal.proofs.QueuedPairs.{IsQueueing}
use Rattle.toric_ideal.proofs.queueing.queue_pairs_of.Given as goal

abbrev pub invariant-sharing : goal.invariant-sharing
invariant-sharing l = IsQueueing (word_order_of (letters_of l.alphabet)) l.c l.table l.j (take l.i-index l.i-items) l.pairs
