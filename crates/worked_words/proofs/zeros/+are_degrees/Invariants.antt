use Rattle.std.proofs.Common.{length}
use Rattle.worked_words.proofs.zeros.+are_degrees.Given as goal

abbrev pub decreases-are_degrees : goal.decreases-are_degrees
decreases-are_degrees l = length l.degrees.now
