use Rattle.std.proofs.Common.{◌∙◌}
use Rattle.poly_core.specs.Presentation.{presented}
use Rattle.quotient_gb.proofs.Finishing.{divides}
use Rattle.quotient_gb.proofs.Steps.{empty_step}
use Rattle.quotient_gb.proofs.degree_step.DegreeStep.after.Goals as goal

pub add_generators-requires-clause-step : goal.add_generators-requires-clause-step
add_generators-requires-clause-step g c =
    let h = c.requires.before in
    empty_step (presented g.F.Field.ops g.O.Order.order c.args.p.now) c.requires.presentation c.args.before.now h.0 h.2 _ h.1 c.requires.small c.requires.places c.new.ensures.members c.new.ensures.leads

pub add_pairs-requires-clause-pairs : goal.add_pairs-requires-clause-pairs
add_pairs-requires-clause-pairs g c = c.requires.before.3.each

pub reduce_tails-requires-clause-divides : goal.reduce_tails-requires-clause-divides
reduce_tails-requires-clause-divides g c =
    let h = c.requires.before in
    divides (presented g.F.Field.ops g.O.Order.order c.args.p.now) c.requires.presentation c.args.before.now h.0 h.2 c.args.degree h.1 c.args.pairs.now h.3 _ _
    c.in_ok-add_pairs.ensures.later c.in_ok-add_generators.ensures.later.degree c.in_ok-add_generators.ensures.reduces c.in_ok-add_pairs.ensures.reduces

pub returns-clause-degree : goal.returns-clause-degree
returns-clause-degree g c = c.in_ok-reduce_tails.ensures.degree ∙ (c.in_ok-add_pairs.ensures.later.degree ∙ c.in_ok-add_generators.ensures.later.degree)
