use Rattle.std.proofs.Common.{◌+◌, take}
use Rattle.toric_ideal.specs.Alphabet.{letters_of}
use Rattle.toric_ideal.specs.Step.{IsGrowing, KeepsFirst, ZerosVanish}
use Rattle.toric_ideal.proofs.degree_step.push_zeros.Given as goal

abbrev pub invariant-zeros : goal.invariant-zeros
invariant-zeros l =
    KeepsFirst l.first l.fn.table l.table × IsGrowing (letters_of l.alphabet) l.zeros l.c l.first l.table ×
    ZerosVanish (letters_of l.alphabet) (l.c + 1) l.table (take l.zero-index l.zeros)
