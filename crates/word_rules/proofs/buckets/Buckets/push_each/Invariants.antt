use Rattle.std.proofs.Common.{◌<◌, ℕ, get_or}
use Rattle.std.specs.Prelude.{Contains}
use Rattle.word_rules.specs.declared.factor.Factor.{Factor}
use Rattle.word_rules.specs.Index.{bucket, KeepsIndexes}
use Rattle.word_rules.proofs.buckets.Buckets.push_each.Given as goal

-- the letters so far have the index
abbrev pub invariant-letters : goal.invariant-letters
invariant-letters l =
    KeepsIndexes l.initial.self l.self × ((k : ℕ) → k < l.factor-index → (d : Factor) → Contains (bucket l.self (get_or l.factors k d).letter) l.index)
