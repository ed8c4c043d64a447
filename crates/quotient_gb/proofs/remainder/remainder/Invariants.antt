use Rattle.std.proofs.Common.{◌++◌}
use Rattle.polynomials.specs.laws.Lowering.{height}
use Rattle.poly_core.specs.Presentation.{presented}
use Rattle.quotient_gb.proofs.Remainders.{IsReducingIn}
use Rattle.quotient_gb.proofs.remainder.remainder.Given as goal

abbrev pub invariant-reduce : goal.invariant-reduce
invariant-reduce g l = IsReducingIn (presented g.F.Field.ops g.O.Order.order l.p) (l.before.members.items ++ l.found.members.items) l.a l.done.items l.work.terms

abbrev pub decreases-reduce : goal.decreases-reduce
decreases-reduce g l = height (g.O.Order.order l.p.order) l.work.terms
