use Rattle.std.proofs.Common.{length}
use Rattle.worked_cases.proofs.operations.+value_degree.Given as goal

abbrev pub decreases-value_degree : goal.decreases-value_degree
decreases-value_degree l = length l.at.now
