use Rattle.witness.specs.Tracking.{values_of}
use Rattle.worked_bases.proofs.expansions.second_squared.Goals as goal

pub returns-clause-made : goal.returns-clause-made
returns-clause-made c = c.in_ok-t.ensures.made (values_of c.args.s.now) 2 2 c.in_ok-b.ensures.made c.in_ok-b.ensures.made
