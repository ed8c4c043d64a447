use Rattle.std.proofs.Common.{length}
use Rattle.worked_words.proofs.zeros.+has.Given as goal

abbrev pub decreases-has : goal.decreases-has
decreases-has l = length l.list.now
