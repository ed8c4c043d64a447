use Rattle.toric_ideal.specs.Alphabet.{letters_of}
use Rattle.toric_ideal.specs.Step.{IsCleaned, KeepsFirst}
use Rattle.toric_ideal.proofs.right_sides.rewrite_right_sides.Given as goal

abbrev pub invariant-rules : goal.invariant-rules
invariant-rules l =
    KeepsFirst l.first l.fn.table l.table × IsCleaned (letters_of l.alphabet) l.zeros l.fn.table l.table l.i
