use Rattle.std.proofs.Common.{ℕ, ◌<◌, get_or}
use Rattle.poly_core.specs.Presentation.{presented}
use Rattle.quotient_gb.specs.DegreeStep.{ReducesPairOf}
use Rattle.quotient_gb.proofs.SPolynomials.{no_pair}
use Rattle.quotient_gb.proofs.later_degrees.all_reduce_to_zero.Given as goal

-- the S-polynomials of the pairs so far reduce to zero
abbrev pub invariant-pairs : goal.invariant-pairs
invariant-pairs g l = (k : ℕ) → k < l.pair-index → ReducesPairOf (presented g.F.Field.ops g.O.Order.order l.p) l.basis.members.items (get_or l.pairs k no_pair)
