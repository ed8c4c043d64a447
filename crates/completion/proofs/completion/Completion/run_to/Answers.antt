use Rattle.std.proofs.Common.{◌≤◌, arith}
use Rattle.completion.proofs.Kept.{kept_after, kept_moved, not_less, on_err}
use Rattle.completion.proofs.completion.Completion.run_to.Goals as goal

pub end_begun-requires : goal.end_begun-requires
end_begun-requires g c = record { completion = rw c.limit_values.ensures c.requires.completion }

pub returns-in_err-end_begun-clause-kept : goal.returns-in_err-end_begun-clause-kept
returns-in_err-end_begun-clause-kept g c =
    kept_moved _ _ _ g.F.Field.ops g.O.Order.order c.limit_values.ensures c.end_begun.ensures.kept

pub returns-in_err-end_begun-clause-memory : goal.returns-in_err-end_begun-clause-memory
returns-in_err-end_begun-clause-memory g c =
    let m = rw c.limit_values.ensures at c.in_err-end_begun.ensures.memory in
    on_err c.from_residual.result (c.args.self.now.degree ≤ c.end_begun.new.self.degree) (omega arith)

pub returns-in_err-close_to-clause-kept : goal.returns-in_err-close_to-clause-kept
returns-in_err-close_to-clause-kept g c =
    let kept = rw c.limit_values.ensures at c.end_begun.ensures.kept in
    let degree = rw c.limit_values.ensures at c.in_ok-end_begun.ensures.degree in
    kept_after g.F.Field.ops g.O.Order.order c.args.self.now c.end_begun.new.self c.close_to.new.self kept
    c.close_to.ensures.kept
    (not_less c.args.self.now.begun c.args.self.now.degree c.end_begun.new.self.degree degree)
    c.end_begun.ensures.completion

pub returns-in_err-close_to-clause-memory : goal.returns-in_err-close_to-clause-memory
returns-in_err-close_to-clause-memory g c =
    let degree = rw c.limit_values.ensures at c.in_ok-end_begun.ensures.degree in
    let l = not_less c.args.self.now.begun c.args.self.now.degree c.end_begun.new.self.degree degree in
    let m = c.in_err-close_to.ensures.memory in
    on_err c.from_residual-in_err-close_to.result (c.args.self.now.degree ≤ c.close_to.new.self.degree) (omega arith)

pub returns-clause-completion : goal.returns-clause-completion
returns-clause-completion g c = rw c.limit_values-2.ensures c.close_to.ensures.completion

pub returns-clause-closed : goal.returns-clause-closed
returns-clause-closed g c = rw c.limit_values-2.ensures c.in_ok-close_to.ensures.closed

pub returns-clause-degree : goal.returns-clause-degree
returns-clause-degree g c =
    rw (
      c.limit_values-2.ensures,
      c.in_ok-close_to.ensures.degree,
      c.in_ok-end_begun.ensures.degree,
      c.limit_values.ensures,
    )

pub returns-clause-kept : goal.returns-clause-kept
returns-clause-kept g c =
    let kept = rw c.limit_values.ensures at c.end_begun.ensures.kept in
    let degree = rw c.limit_values.ensures at c.in_ok-end_begun.ensures.degree in
    rw c.limit_values-2.ensures
    (kept_after g.F.Field.ops g.O.Order.order c.args.self.now c.end_begun.new.self c.close_to.new.self kept
    c.close_to.ensures.kept
    (not_less c.args.self.now.begun c.args.self.now.degree c.end_begun.new.self.degree degree)
    c.end_begun.ensures.completion)
