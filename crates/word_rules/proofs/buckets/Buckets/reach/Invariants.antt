use Rattle.std.proofs.Common.{◌≡◌, ℕ, suc, ◌-◌, vec_len}
use Rattle.word_rules.specs.Index.{bucket}
use Rattle.word_rules.proofs.buckets.Buckets.reach.Given as goal

abbrev pub invariant-reach : goal.invariant-reach
invariant-reach l = (k : ℕ) → bucket l.self k ≡ bucket l.initial.self k

abbrev pub decreases-reach : goal.decreases-reach
decreases-reach l = suc l.key - vec_len l.self.lists
