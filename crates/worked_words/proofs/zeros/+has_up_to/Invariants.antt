use Rattle.std.proofs.Common.{length}
use Rattle.worked_words.proofs.zeros.+has_up_to.Given as goal

abbrev pub decreases-has_up_to : goal.decreases-has_up_to
decreases-has_up_to l = length l.some.now
