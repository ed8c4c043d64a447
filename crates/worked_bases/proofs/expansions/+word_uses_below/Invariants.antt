use Rattle.std.proofs.Common.{length}
use Rattle.worked_bases.proofs.expansions.+word_uses_below.Given as goal

abbrev pub decreases-word_uses_below : goal.decreases-word_uses_below
decreases-word_uses_below l = length l.exponents.now
