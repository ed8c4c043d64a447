use Rattle.std.proofs.Common.{◌++◌, arith, Err}
use Rattle.std.specs.Prelude.{codes}
use Rattle.std.proofs.lemmas.Result.{err_from_is_err_and}
use Rattle.sagbi_cli.specs.Message.{fault_line, input_name}
use Rattle.sagbi_cli.proofs.Putting.{takes-after, takes-before}
use Rattle.sagbi_cli.proofs.message.put_fault.Goals as goal

pub returns-in_err-put_all-clause-takes : goal.returns-in_err-put_all-clause-takes
returns-in_err-put_all-clause-takes g c =
    let p = err_from_is_err_and c.from_residual.result c.from_residual.ensures.1 in
    rw p.1 (takes-before p.0 (codes "error: ") (input_name c.args.input ++ fault_line c.args.kind c.args.line) _
    c.in_err-put_all.ensures.takes)

pub returns-in_err-put_all-2-clause-takes : goal.returns-in_err-put_all-2-clause-takes
returns-in_err-put_all-2-clause-takes g c =
    let p = err_from_is_err_and c.from_residual-in_err-put_all-2.result c.from_residual-in_err-put_all-2.ensures.1 in
    let rest = fault_line c.args.kind c.args.line in
    rw p.1 (rw (← c.called.ensures) (takes-after g.N.Sink.taken g.N.Sink.faults (Err p.0) (codes "error: ")
    (c.called.result.now ++ rest) _ _ _ c.put_all.ensures.counted c.put_all-2.ensures.counted
    c.in_ok-put_all.ensures.takes (takes-before p.0 c.called.result.now rest _ c.in_err-put_all-2.ensures.takes)))

pub returns-clause-takes : goal.returns-clause-takes
returns-clause-takes g c =
    let rest = fault_line c.args.kind c.args.line in
    rw (← c.called.ensures) (takes-after g.N.Sink.taken g.N.Sink.faults c.put_place.result (codes "error: ")
    (c.called.result.now ++ rest) _ _ _ c.put_all.ensures.counted
    (omega (arith, c.put_all-2.ensures.counted, c.put_place.ensures.counted)) c.in_ok-put_all.ensures.takes
    (takes-after g.N.Sink.taken g.N.Sink.faults c.put_place.result c.called.result.now rest _ _ _
    c.put_all-2.ensures.counted c.put_place.ensures.counted c.in_ok-put_all-2.ensures.takes c.put_place.ensures.takes))
