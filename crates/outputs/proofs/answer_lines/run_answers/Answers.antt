use Rattle.outputs.proofs.Completed.{answers_printed, queries_canonical, queries_low}
use Rattle.std.proofs.lemmas.Result.{IfOk-weaker}
use Rattle.outputs.proofs.answer_lines.run_answers.Goals as goal

pub answers_by-requires-clause-canonical : goal.answers_by-requires-clause-canonical
answers_by-requires-clause-canonical g c =
    queries_canonical g.F.Field.ops g.O.Order.order c.args.c.now.presentation c.args.bound c.complete.new.c c.in_ok-complete.ensures c.args.queries.now
    c.requires.canonical

pub answers_by-requires-clause-low : goal.answers_by-requires-clause-low
answers_by-requires-clause-low g c =
    queries_low g.F.Field.ops g.O.Order.order c.args.c.now.presentation c.args.bound c.complete.new.c c.in_ok-complete.ensures c.args.queries.now
    c.requires.low

pub returns : goal.returns
returns g c =
    IfOk-weaker c.answers_by.result _ _ (λ text k. answers_printed g.F.Field.ops g.O.Order.order c.args.c.now.presentation c.args.bound c.complete.new.c c.in_ok-complete.ensures
    c.args.queries.now text.items k)
    c.answers_by.ensures
