use Rattle.witness.specs.Tracking.{values_of}
use Rattle.worked_bases.proofs.expansions.products_difference.Goals as goal

pub returns-clause-made : goal.returns-clause-made
returns-clause-made c = c.in_ok-t.ensures.made (values_of c.args.s.now) 4 c.in_ok-first.ensures.made c.in_ok-second.ensures.made
