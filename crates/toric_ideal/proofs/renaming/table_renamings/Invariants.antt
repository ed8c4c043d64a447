use Rattle.toric_ideal.specs.Renaming.{AreRenamings}
use Rattle.toric_ideal.proofs.renaming.table_renamings.Given as goal

abbrev pub invariant-rules : goal.invariant-rules
invariant-rules l = AreRenamings l.word l.letter l.table l.index l.renamings.items
