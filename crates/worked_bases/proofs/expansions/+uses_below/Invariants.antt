use Rattle.std.proofs.Common.{length}
use Rattle.worked_bases.proofs.expansions.+uses_below.Given as goal

abbrev pub decreases-uses_below : goal.decreases-uses_below
decreases-uses_below l = length l.terms.now
