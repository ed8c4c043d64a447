use Rattle.std.proofs.lemmas.Result.{err_from_is_err_and}
use Rattle.presentation_text.specs.Giving.{head_of}
use Rattle.presentation_text.specs.Reading.{poly_line}
use Rattle.presentation_text.proofs.NextLines.{next_none}
use Rattle.presentation_text.proofs.NextPolys.{poly_gives, poly_fails}
use Rattle.presentation_text.proofs.polys.next_poly.Goals as goal

pub returns-in_err-line-clause-fault : goal.returns-in_err-line-clause-fault
returns-in_err-line-clause-fault g c =
    let p = err_from_is_err_and c.from_residual.result c.from_residual.ensures.1 in
    rw (p.1, p.2) (next_none (poly_line (g.F.Field.ops c.args.f.now) (head_of c.args.h.now) c.args.constant) c.args.lines.now.missing c.args.lines.now.left c.in_err-line.field-0.0 c.in_err-line.ensures.none.0 c.in_err-line.ensures.none.1)

pub returns-clause-read : goal.returns-clause-read
returns-clause-read g c =
    poly_gives _ _ (poly_line (g.F.Field.ops c.args.f.now) (head_of c.args.h.now) c.args.constant) c.args.lines.now.missing c.in_ok-line.line.number c.in_ok-line.line.bytes.now c.args.lines.now.left c.needed_line.new.self.left c.poly_line.result c.located.result c.in_ok-line.ensures.line c.poly_line.ensures.read c.located.ensures

pub returns-clause-fault : goal.returns-clause-fault
returns-clause-fault g c =
    poly_fails (poly_line (g.F.Field.ops c.args.f.now) (head_of c.args.h.now) c.args.constant) c.args.lines.now.missing c.in_ok-line.line.number c.in_ok-line.line.bytes.now c.args.lines.now.left c.needed_line.new.self.left c.poly_line.result c.located.result c.in_ok-line.ensures.line c.poly_line.ensures.fault c.located.ensures
