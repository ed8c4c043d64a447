use Rattle.std.proofs.Common.{length}
use Rattle.worked_cases.proofs.operations.+have_small_values.Given as goal

abbrev pub decreases-have_small_values : goal.decreases-have_small_values
decreases-have_small_values l = length l.terms.now
