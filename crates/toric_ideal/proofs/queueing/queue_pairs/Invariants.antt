use Rattle.word_laws.specs.Words.{word_order_of}
use Rattle.toric_ideal.specs.Alphabet.{letters_of}
use Rattle.toric_ideal.specs.Queue.{IsQueued}
use Rattle.toric_ideal.proofs.queueing.queue_pairs.Given as goal

abbrev pub invariant-rules : goal.invariant-rules
invariant-rules l = IsQueued (word_order_of (letters_of l.alphabet)) l.c l.j l.table l.pairs
