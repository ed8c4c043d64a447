use Rattle.std.proofs.Common.{length}
use Rattle.worked_words.proofs.zeros.+degree_of.Given as goal

abbrev pub decreases-degree_of : goal.decreases-degree_of
decreases-degree_of l = length l.degrees.now
