use Rattle.std.proofs.Common.{◌≡◌, ◌++◌, arith, Err, ◌∙◌}
use Rattle.std.specs.Prelude.{codes}
use Rattle.std.specs.Fmt.{decimal}
use Rattle.std.proofs.lemmas.Result.{err_from_is_err_and}
use Rattle.presentation_text.specs.Kinds.{kind_name}
use Rattle.sagbi_cli.specs.Message.{named_line}
use Rattle.sagbi_cli.proofs.Putting.{takes-after, takes-before}
use Rattle.sagbi_cli.proofs.message.put_place.Goals as goal

pub returns-in_err-put_all-clause-takes : goal.returns-in_err-put_all-clause-takes
returns-in_err-put_all-clause-takes g c =
    let p = err_from_is_err_and c.from_residual.result c.from_residual.ensures.1 in
    rw p.1 (takes-before p.0 (codes " line ") (decimal c.args.line ++ named_line (codes ": ") (kind_name c.args.kind)) _ c.in_err-put_all.ensures.takes)

pub returns-in_err-put_all-2-clause-takes : goal.returns-in_err-put_all-2-clause-takes
returns-in_err-put_all-2-clause-takes g c =
    let p = err_from_is_err_and c.from_residual-in_err-put_all-2.result c.from_residual-in_err-put_all-2.ensures.1 in
    let digits : c.as_bytes.result.now ≡ decimal c.args.line = c.as_bytes.ensures.value ∙ c.format.ensures.text in
    let rest = named_line (codes ": ") (kind_name c.args.kind) in
    rw p.1 (rw (← digits) (takes-after g.N.Sink.taken g.N.Sink.faults (Err p.0) (codes " line ") (c.as_bytes.result.now ++ rest) _ _ _
    c.put_all.ensures.counted c.put_all-2.ensures.counted c.in_ok-put_all.ensures.takes
    (takes-before p.0 c.as_bytes.result.now rest _ c.in_err-put_all-2.ensures.takes)))

pub returns-clause-takes : goal.returns-clause-takes
returns-clause-takes g c =
    let digits : c.as_bytes.result.now ≡ decimal c.args.line = c.as_bytes.ensures.value ∙ c.format.ensures.text in
    let named : c.as_bytes-2.result.now ≡ kind_name c.args.kind = c.as_bytes-2.ensures.value ∙ c.name.ensures in
    rw (← digits, ← named) (takes-after g.N.Sink.taken g.N.Sink.faults c.put_named.result (codes " line ")
    (c.as_bytes.result.now ++ named_line (codes ": ") c.as_bytes-2.result.now) _ _ _ c.put_all.ensures.counted
    (omega (arith, c.put_all-2.ensures.counted, c.put_named.ensures.counted))
    c.in_ok-put_all.ensures.takes
    (takes-after g.N.Sink.taken g.N.Sink.faults c.put_named.result c.as_bytes.result.now (named_line (codes ": ") c.as_bytes-2.result.now) _ _ _
    c.put_all-2.ensures.counted c.put_named.ensures.counted c.in_ok-put_all-2.ensures.takes c.put_named.ensures.takes))
