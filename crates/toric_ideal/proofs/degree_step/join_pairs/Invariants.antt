use Rattle.std.proofs.Common.{◌+◌, length}
use Rattle.word_laws.specs.Words.{word_order_of}
use Rattle.word_rewriting.specs.Rewriting.{KeepsRules}
use Rattle.degree_queue.specs.DegreeQueue.{list_of}
use Rattle.toric_ideal.specs.Alphabet.{letters_of}
use Rattle.toric_ideal.specs.Step.{IsGrowing, KeepsFirst}
use Rattle.toric_ideal.proofs.JoiningPairs.{IsJoining}
use Rattle.toric_ideal.proofs.degree_step.join_pairs.Given as goal

abbrev pub invariant-pairs : goal.invariant-pairs
invariant-pairs l =
    KeepsFirst l.first l.fn.table l.table × KeepsRules l.fn.table l.table × IsGrowing (letters_of l.alphabet) l.zeros l.c l.first l.table ×
    IsJoining (word_order_of (letters_of l.alphabet)) l.c l.first l.table l.pairs

abbrev pub decreases-pairs : goal.decreases-pairs
decreases-pairs l = length (list_of l.pairs (l.c + 1))
