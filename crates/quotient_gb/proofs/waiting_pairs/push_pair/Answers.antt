use Rattle.quotient_gb.proofs.Waiting.{filled_out, filled_in}
use Rattle.quotient_gb.proofs.waiting_pairs.push_pair.Goals as goal

pub returns-then-pair-gt-DEGREE_MAX : goal.returns-then-pair-gt-DEGREE_MAX
returns-then-pair-gt-DEGREE_MAX c = filled_out c.args.waiting.now c.args.pair c.if-pair-gt-DEGREE_MAX.true

pub returns-in-Ok : goal.returns-in-Ok
returns-in-Ok c = filled_in c.args.waiting.now c.push.new.self c.args.pair c.in-Ok.ensures.last c.push.ensures.others
