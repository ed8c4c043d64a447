use Rattle.std.proofs.Common.{◌≡◌, take}
use Rattle.poly_core.proofs.presentations.copy_list.Given as goal

abbrev pub invariant-loop-p : goal.invariant-loop-p
invariant-loop-p g l = l.copies.items ≡ take l.p-index l.list
