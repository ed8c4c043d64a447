use Rattle.std.proofs.Common.{◌≡◌}
use Rattle.poly_core.specs.Presentation.{presented}
use Rattle.quotient_gb.specs.DegreeStep.{IsStepAfter, HasTails}
use Rattle.quotient_gb.proofs.degree_step.DegreeStep.reduce_tails.Given as goal

-- the tails so far are standard
abbrev pub invariant-tails : goal.invariant-tails
invariant-tails g l = record {
  degree : l.self.degree ≡ l.initial.self.degree;
  leads : l.self.found.leads.items ≡ l.initial.self.found.leads.items;
  step : IsStepAfter (presented g.F.Field.ops g.O.Order.order l.p) l.before l.self;
  tails : HasTails (presented g.F.Field.ops g.O.Order.order l.p) l.i l.self.found.members.items;
}
