use Rattle.std.proofs.Common.{length}
use Rattle.worked_words.proofs.zeros.+are_zeros.Given as goal

abbrev pub decreases-are_zeros : goal.decreases-are_zeros
decreases-are_zeros l = length l.zeros.now
