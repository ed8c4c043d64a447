use Rattle.std.proofs.Common.{ℕ, ◌<◌, length, get_or}
use Rattle.monomial_order.specs.Monomial.{Divides}
use Rattle.word_rules.specs.Index.{lefts_of, list_at}
use Rattle.word_rules.proofs.table.Table.find_among.Given as goal

-- none of the indexes so far
abbrev pub invariant-indexes : goal.invariant-indexes
invariant-indexes l = (k : ℕ) → k < l.i-index → get_or l.indexes k 0 < length l.self.rules.items →
    Divides (list_at (lefts_of l.self.rules.items) (get_or l.indexes k 0)) l.word → ⊥
