use Rattle.std.proofs.Common.{◌∙◌}
use Rattle.std.proofs.lemmas.Result.{err_from_is_err_and}
use Rattle.polynomial_text.specs.laws.Names.{names_differ}
use Rattle.presentation_text.proofs.PolyLines.{line_judged, line_err, line_fault}
use Rattle.presentation_text.proofs.polys.poly_line.Goals as goal

pub poly_of_line-requires : goal.poly_of_line-requires
poly_of_line-requires g c = names_differ _ c.args.h.now.names c.requires

pub returns-in_err-p-clause-fault : goal.returns-in_err-p-clause-fault
returns-in_err-p-clause-fault g c =
    let p = err_from_is_err_and c.from_residual.result c.from_residual.ensures.1 in
    rw (p.1, p.2) (line_err (g.F.Field.ops c.args.f.now) c.args.h.now c.requires c.args.constant c.args.line.now c.in_err-p.field-0.0 c.in_err-p.ensures.fault)

pub returns-in_err-judge-clause-fault : goal.returns-in_err-judge-clause-fault
returns-in_err-judge-clause-fault g c =
    let p = err_from_is_err_and c.from_residual-in_err-judge.result c.from_residual-in_err-judge.ensures.1 in
    let is = c.in_ok-p.ensures.read in
    rw (p.1, p.2) (line_fault (g.F.Field.ops c.args.f.now) c.args.h.now c.requires c.args.constant c.args.line.now is.terms c.in_err-judge.field-0.0 is.read (c.in_err-judge.ensures.fault is.terms is.sum))

pub returns-clause-read : goal.returns-clause-read
returns-clause-read g c =
    let is = c.in_ok-p.ensures.read in
    record {
      sum = is.terms;
      is = line_judged (g.F.Field.ops c.args.f.now) c.args.h.now c.requires c.args.constant c.args.line.now is.terms is.read ∙ c.in_ok-judge.ensures.accepted is.terms is.sum;
      same = is.sum;
      generator = c.in_ok-judge.ensures.generator;
    }
