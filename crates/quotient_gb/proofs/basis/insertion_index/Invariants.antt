use Rattle.std.proofs.Common.{◌≡◌, ℕ, ◌<◌, [], slice_index_or}
use Rattle.std.specs.declared.cmp.Ordering.TheVariants.{Less}
use Rattle.quotient_gb.proofs.basis.insertion_index.Given as goal

-- m is not below any lead so far
abbrev pub invariant-seek : goal.invariant-seek
invariant-seek g l = (k : ℕ) → k < l.i → (g.O.Order.order l.o).compare l.m (slice_index_or l.leads k []) ≡ Less → ⊥
