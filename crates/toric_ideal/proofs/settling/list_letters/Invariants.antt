use Rattle.toric_ideal.specs.Settling.{AreNewLetters}
use Rattle.toric_ideal.specs.Rewriting.{rewrite_rules}
use Rattle.toric_ideal.proofs.settling.list_letters.Given as goal

abbrev pub invariant-rules : goal.invariant-rules
invariant-rules l = AreNewLetters l.alphabet l.first l.leads (rewrite_rules l.rules) l.index l.renamings.items
