use Rattle.std.proofs.Common.{◌<◌, ℕ}
use Rattle.word_laws.specs.Words.{word_order_of}
use Rattle.toric_ideal.specs.Alphabet.{letters_of}
use Rattle.toric_ideal.specs.Closing.{JoinsPairsOf}
use Rattle.toric_ideal.proofs.closing.all_joined.Given as goal

abbrev pub invariant-rules : goal.invariant-rules
invariant-rules l = (k : ℕ) → k < l.j → JoinsPairsOf (word_order_of (letters_of l.alphabet)) l.c l.table k
