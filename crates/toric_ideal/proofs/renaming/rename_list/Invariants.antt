use Rattle.std.proofs.Common.{◌≡◌, ◌++◌, List}
use Rattle.toric_ideal.specs.declared.renaming.Renaming.{Renaming}
use Rattle.toric_ideal.specs.Renaming.{AreSetBy}
use Rattle.toric_ideal.specs.Rewriting.{rewrite_rules}
use Rattle.toric_ideal.proofs.renaming.rename_list.Given as goal

abbrev pub invariant-rename : goal.invariant-rename
invariant-rename l = (done : List Renaming) × (l.fn.renamings.items ≡ l.renamings.items ++ done) × AreSetBy done (rewrite_rules l.fn.rules) (rewrite_rules l.rules)

abbrev pub decreases-rename : goal.decreases-rename
decreases-rename l = goal.left-rename l
