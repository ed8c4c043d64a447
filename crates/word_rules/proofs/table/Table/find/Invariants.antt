use Rattle.std.proofs.Common.{ℕ, ◌≤◌, ◌<◌, length, get_or}
use Rattle.std.specs.Prelude.{Contains}
use Rattle.monomial_order.specs.Monomial.{Divides}
use Rattle.word_rules.specs.Index.{pair_bucket, lefts_of, list_at}
use Rattle.word_rules.proofs.table.Table.find.Given as goal

-- none in the rows so far
abbrev pub invariant-letters : goal.invariant-letters
invariant-letters l = (k : ℕ) → k < l.a-index → (b i : ℕ) → Contains l.letters b → b ≤ get_or l.letters k 0 →
    Contains (pair_bucket l.self.by_pair (get_or l.letters k 0) b) i →
    i < length l.self.rules.items → Divides (list_at (lefts_of l.self.rules.items) i) l.word → ⊥
