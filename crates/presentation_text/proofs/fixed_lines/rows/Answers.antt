use Rattle.std.proofs.Common.{sym, ◌∙◌}
use Rattle.std.proofs.lemmas.Result.{err_from_is_err_and}
use Rattle.presentation_text.specs.Heading.{rows_max, rows_of}
use Rattle.presentation_text.proofs.TakenTokens.{rows_tie, rows_next, rows_fault, rows_done, or_fault_ok}
use Rattle.presentation_text.proofs.fixed_lines.rows.Goals as goal

pub returns-then-is_single-clause-read : goal.returns-then-is_single-clause-read
returns-then-is_single-clause-read c = rows_tie c.args.count c.loop.rows.items c.loop.counter c.loop.tokens (rows_of c.args.count rows_max c.args.tokens.now) c.loop-test.true (sym c.is_single.ensures ∙ c.if-is_single.true) c.loop.invariant

pub returns-in_err-row-clause-fault : goal.returns-in_err-row-clause-fault
returns-in_err-row-clause-fault c =
    let p = err_from_is_err_and c.from_residual.result c.from_residual.ensures.1 in
    rw (p.1, p.2) (rows_fault c.args.count c.in_err-row.field-0.0 c.loop.rows.items c.loop.counter c.loop.tokens (rows_of c.args.count rows_max c.args.tokens.now) c.loop-test.true (sym c.is_single.ensures ∙ c.if-is_single.false) c.in_err-row.ensures c.loop.invariant)

pub loop-preserved : goal.loop-preserved
loop-preserved c =
    rw (rw c.in_ok-push.was at c.push.ensures.items)
    (rows_next c.args.count c.loop.rows.items c.loop.counter c.loop.tokens c.row.new.tokens c.in_ok-row.row (rows_of c.args.count rows_max c.args.tokens.now) c.loop-test.true (sym c.is_single.ensures ∙ c.if-is_single.false) (or_fault_ok _ _ _ c.in_ok-row.ensures) c.loop.invariant)

pub returns-clause-read : goal.returns-clause-read
returns-clause-read c = rows_done c.args.count c.loop.rows.items c.loop.counter c.loop.tokens (rows_of c.args.count rows_max c.args.tokens.now) c.loop-test.false c.loop.invariant
