use Rattle.std.proofs.Common.{◌≡◌, ◌++◌, List}
use Rattle.toric_ideal.specs.declared.renaming.Renaming.{Renaming}
use Rattle.toric_ideal.specs.Renaming.{AreSetBy}
use Rattle.toric_ideal.proofs.renaming.rename_table.Given as goal

abbrev pub invariant-rename : goal.invariant-rename
invariant-rename l = (done : List Renaming) × (l.fn.renamings.items ≡ l.renamings.items ++ done) × AreSetBy done l.fn.table l.table

abbrev pub decreases-rename : goal.decreases-rename
decreases-rename l = goal.left-rename l
