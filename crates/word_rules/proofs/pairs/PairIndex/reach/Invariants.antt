use Rattle.std.proofs.Common.{◌≡◌, ℕ, suc, ◌-◌, vec_len}
use Rattle.word_rules.specs.Index.{pair_bucket}
use Rattle.word_rules.proofs.pairs.PairIndex.reach.Given as goal

abbrev pub invariant-reach : goal.invariant-reach
invariant-reach l = (k b : ℕ) → pair_bucket l.self k b ≡ pair_bucket l.initial.self k b

abbrev pub decreases-reach : goal.decreases-reach
decreases-reach l = suc l.a - vec_len l.self.rows
