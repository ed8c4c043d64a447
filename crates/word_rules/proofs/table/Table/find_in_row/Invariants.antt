use Rattle.std.proofs.Common.{ℕ, ◌≤◌, ◌<◌, length, get_or}
use Rattle.std.specs.Prelude.{Contains}
use Rattle.monomial_order.specs.Monomial.{Divides}
use Rattle.word_rules.specs.Index.{bucket, lefts_of, list_at}
use Rattle.word_rules.proofs.table.Table.find_in_row.Given as goal

-- none in the buckets so far
abbrev pub invariant-letters : goal.invariant-letters
invariant-letters l = (k : ℕ) → k < l.b-index → get_or l.letters k 0 ≤ l.a → (i : ℕ) → Contains (bucket l.row (get_or l.letters k 0)) i →
    i < length l.self.rules.items → Divides (list_at (lefts_of l.self.rules.items) i) l.word → ⊥
