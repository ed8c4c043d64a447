use Rattle.witness.specs.Tracking.{values_of}
use Rattle.worked_bases.proofs.expansions.first_by_third.Goals as goal

pub judge_element-requires-clause-pair : goal.judge_element-requires-clause-pair
judge_element-requires-clause-pair c = (c.args.w.now, c.in_ok-a.ensures.pair)

pub returns-clause-made : goal.returns-clause-made
returns-clause-made c = c.in_ok-t.ensures.made (values_of c.args.s.now) 1 3 c.in_ok-a.ensures.made c.in_ok-c.ensures.made
