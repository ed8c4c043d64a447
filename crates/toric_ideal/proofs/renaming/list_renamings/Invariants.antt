use Rattle.toric_ideal.specs.Renaming.{AreRenamings}
use Rattle.toric_ideal.specs.Rewriting.{rewrite_rules}
use Rattle.toric_ideal.proofs.renaming.list_renamings.Given as goal

abbrev pub invariant-rules : goal.invariant-rules
invariant-rules l = AreRenamings l.word l.letter (rewrite_rules l.rules) l.index l.renamings.items
