use Rattle.std.proofs.Common.{length}
use Rattle.poly_core.proofs.values.+sum_of_values.Given as goal

abbrev pub decreases-sum_of_values : goal.decreases-sum_of_values
decreases-sum_of_values g l = length l.h.now
