use Rattle.std.proofs.Common.{take}
use Rattle.word_laws.specs.Words.{word_order_of}
use Rattle.toric_ideal.specs.Alphabet.{letters_of}
use Rattle.toric_ideal.proofs.ClosedRules.{JoinsThese}
use Rattle.toric_ideal.proofs.closing.are_joined.Given as goal

abbrev pub invariant-sharing : goal.invariant-sharing
invariant-sharing l = JoinsThese (word_order_of (letters_of l.alphabet)) l.c l.table l.j (take l.i-index l.i-items)
