use Rattle.std.proofs.Common.{arith}
use Rattle.completion.proofs.Kept.{kept_after}
use Rattle.completion.proofs.completion.Completion.close_with.Goals as goal

pub returns-in_err-take_picked-clause-kept : goal.returns-in_err-take_picked-clause-kept
returns-in_err-take_picked-clause-kept g c =
    kept_after g.F.Field.ops g.O.Order.order c.args.self.now c.begin_degree.new.self c.take_picked.new.self
    c.begin_degree.ensures.kept c.take_picked.ensures.kept
    (let e = c.begin_degree.ensures.degree in omega arith) c.begin_degree.ensures.completion

pub returns-in_err-close_degree-clause-kept : goal.returns-in_err-close_degree-clause-kept
returns-in_err-close_degree-clause-kept g c =
    let k = kept_after g.F.Field.ops g.O.Order.order c.args.self.now c.begin_degree.new.self c.take_picked.new.self
    c.begin_degree.ensures.kept c.take_picked.ensures.kept
    (let e = c.begin_degree.ensures.degree in omega arith) c.begin_degree.ensures.completion in
    kept_after g.F.Field.ops g.O.Order.order c.args.self.now c.take_picked.new.self c.close_degree.new.self k
    c.close_degree.ensures.kept
    (let e = c.begin_degree.ensures.degree in let f = c.take_picked.ensures.degree in omega arith)
    c.take_picked.ensures.completion

pub returns-clause-kept : goal.returns-clause-kept
returns-clause-kept g c =
    let k = kept_after g.F.Field.ops g.O.Order.order c.args.self.now c.begin_degree.new.self c.take_picked.new.self
    c.begin_degree.ensures.kept c.take_picked.ensures.kept
    (let e = c.begin_degree.ensures.degree in omega arith) c.begin_degree.ensures.completion in
    kept_after g.F.Field.ops g.O.Order.order c.args.self.now c.take_picked.new.self c.close_degree.new.self k
    c.close_degree.ensures.kept
    (let e = c.begin_degree.ensures.degree in let f = c.take_picked.ensures.degree in omega arith)
    c.take_picked.ensures.completion
