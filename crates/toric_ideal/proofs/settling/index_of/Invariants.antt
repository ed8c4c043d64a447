use Rattle.std.proofs.Common.{length, ◌-◌, ◌≢◌, ◌<◌, ℕ, [], get_or}
use Rattle.toric_ideal.proofs.settling.index_of.Given as goal

abbrev pub invariant-seek : goal.invariant-seek
invariant-seek l = (j : ℕ) → j < l.index → get_or l.list j [] ≢ l.m

abbrev pub decreases-seek : goal.decreases-seek
decreases-seek l = length l.list - l.index
