use Rattle.std.proofs.Common.{◌≡◌, ℕ, suc, ◌-◌, false, get_or, vec_len}
use Rattle.word_rules.proofs.marks.reach.Given as goal

abbrev pub invariant-reach : goal.invariant-reach
invariant-reach l = (k : ℕ) → get_or l.seen.items k false ≡ get_or l.initial.seen.items k false

abbrev pub decreases-reach : goal.decreases-reach
decreases-reach l = suc l.i - vec_len l.seen
