use Rattle.std.proofs.Common.{length, ◌+◌, ◌++◌}
use Rattle.std.specs.Prelude.{reverse}
use Rattle.poly_core.proofs.Merging.{IsMerging, IsMerged}
use Rattle.poly_core.proofs.sums.merge.Given as goal

abbrev pub invariant-both : goal.invariant-both
invariant-both g l = IsMerging (g.F.Field.ops l.f) (g.O.Order.order l.o) l.fn.a.items l.fn.b.items l.a.items l.b.items (reverse l.rising.items)

abbrev pub decreases-both : goal.decreases-both
decreases-both g l = length l.a.items + length l.b.items

abbrev pub invariant-end : goal.invariant-end
invariant-end g l = IsMerged (g.F.Field.ops l.f) (g.O.Order.order l.o) l.fn.a.items l.fn.b.items (l.sum.items ++ reverse l.rising.items)

abbrev pub decreases-end : goal.decreases-end
decreases-end g l = length l.rising.items
