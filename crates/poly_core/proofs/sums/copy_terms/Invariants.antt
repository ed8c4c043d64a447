use Rattle.std.proofs.Common.{◌≡◌, take}
use Rattle.poly_core.proofs.sums.copy_terms.Given as goal

abbrev pub invariant-loop-t : goal.invariant-loop-t
invariant-loop-t g l = l.copies.items ≡ take l.t-index l.terms
