use Rattle.std.proofs.Common.{ℕ, ◌<◌, [], get_or}
use Rattle.poly_core.specs.Presentation.{presented}
use Rattle.polynomials.specs.Subalgebra.{HasDegreesTo}
use Rattle.completion.proofs.later.has_higher.Given as goal

-- no polynomial so far has a degree above c
abbrev pub invariant-list : goal.invariant-list
invariant-list g l = (k : ℕ) → k < l.f-index →
    HasDegreesTo (presented g.F.Field.ops g.O.Order.order l.p) l.c (get_or l.list k [])
