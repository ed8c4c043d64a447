use Rattle.std.proofs.Common.{ℕ, ◌<◌, [], get_or}
use Rattle.polynomials.specs.Polynomial.{IsHomogeneous}
use Rattle.poly_core.specs.Presentation.{presented}
use Rattle.quotient_gb.specs.Combinations.{HasStandardRepresentation}
use Rattle.quotient_gb.specs.DegreeStep.{all_members, IsLaterStep}
use Rattle.quotient_gb.proofs.degree_step.DegreeStep.add_generators.Given as goal

-- the generators so far have standard representations
abbrev pub invariant-generators : goal.invariant-generators
invariant-generators g l = record {
  later : IsLaterStep (presented g.F.Field.ops g.O.Order.order l.p) l.before l.initial.self l.self;
  reduces : (k : ℕ) → k < l.r-index → IsHomogeneous (g.F.Field.ops l.p.field) (g.O.Order.order l.p.order) l.self.degree (get_or l.p.ideal.items k []) →
      HasStandardRepresentation (g.F.Field.ops l.p.field) (g.O.Order.order l.p.order) (all_members l.before l.self) (get_or l.p.ideal.items k []);
}
