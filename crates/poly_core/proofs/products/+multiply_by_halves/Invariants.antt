use Rattle.std.proofs.Common.{length}
use Rattle.poly_core.proofs.products.+multiply_by_halves.Given as goal

abbrev pub decreases-multiply_by_halves : goal.decreases-multiply_by_halves
decreases-multiply_by_halves g l = length l.a.now
