use Rattle.toric_ideal.specs.Settling.{AreNewLetters}
use Rattle.toric_ideal.proofs.settling.table_letters.Given as goal

abbrev pub invariant-rules : goal.invariant-rules
invariant-rules l = AreNewLetters l.alphabet l.first l.leads l.table l.index l.renamings.items
