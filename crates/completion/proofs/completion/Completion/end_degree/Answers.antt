use Rattle.std.proofs.Common.{arith}
use Rattle.completion.proofs.Kept.{kept_after}
use Rattle.completion.proofs.completion.Completion.end_degree.Goals as goal

pub returns-in_err-close_degree-clause-kept : goal.returns-in_err-close_degree-clause-kept
returns-in_err-close_degree-clause-kept g c =
    kept_after g.F.Field.ops g.O.Order.order c.args.self.now c.take_all.new.self c.close_degree.new.self
    c.take_all.ensures.kept c.close_degree.ensures.kept
    (let e = c.take_all.ensures.degree in omega arith) c.take_all.ensures.completion

pub returns-clause-kept : goal.returns-clause-kept
returns-clause-kept g c =
    kept_after g.F.Field.ops g.O.Order.order c.args.self.now c.take_all.new.self c.close_degree.new.self
    c.take_all.ensures.kept c.close_degree.ensures.kept
    (let e = c.take_all.ensures.degree in omega arith) c.take_all.ensures.completion
