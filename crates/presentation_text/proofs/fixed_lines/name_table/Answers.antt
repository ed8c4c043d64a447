use Rattle.std.proofs.lemmas.Result.{err_from_is_err_and}
use Rattle.presentation_text.proofs.NameTokens.{table_stop, table_whole}
use Rattle.presentation_text.proofs.fixed_lines.name_table.Goals as goal

pub returns-in_err-push_name : goal.returns-in_err-push_name
returns-in_err-push_name c =
    let p = err_from_is_err_and c.from_residual.result c.from_residual.ensures.1 in
    rw (p.1, p.2) (table_stop c.in_err-push_name.field-0.0 c.args.line.now c.loop-token.names c.loop-token.tokens c.next.new.self c.in-Some.token.now c.loop-token.invariant.whole c.in-Some.ensures.some c.in_err-push_name.ensures.repeated)

pub returns : goal.returns
returns c = table_whole c.args.line.now c.loop-token.names c.loop-token.tokens c.loop-token.invariant.whole (rw c.in_default.is at c.next.ensures.none) c.loop-token.invariant.distinct
