use Rattle.std.proofs.Common.{◌≡◌, ℕ, ◌<◌, get_or}
use Rattle.poly_core.specs.Presentation.{presented}
use Rattle.quotient_gb.specs.DegreeStep.{IsLaterStep, ReducesPair}
use Rattle.quotient_gb.proofs.SPolynomials.{no_pair}
use Rattle.quotient_gb.proofs.degree_step.DegreeStep.add_pairs.Given as goal

-- the S-polynomials of the pairs so far have standard representations
abbrev pub invariant-pairs : goal.invariant-pairs
invariant-pairs g l = record {
  later : IsLaterStep (presented g.F.Field.ops g.O.Order.order l.p) l.before l.initial.self l.self;
  reduces : (k : ℕ) → k < l.w-index → (get_or l.pairs k no_pair).degree ≡ l.self.degree →
      ReducesPair (presented g.F.Field.ops g.O.Order.order l.p) l.before l.self (get_or l.pairs k no_pair);
}
