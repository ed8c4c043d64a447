use Rattle.std.proofs.lemmas.Result.{err_from_is_err_and}
use Rattle.presentation_text.specs.Giving.{head_of}
use Rattle.presentation_text.proofs.WholeTexts.{lists_refused, is_read_over}
use Rattle.presentation_text.proofs.reading.read_over.Goals as goal

pub returns-in_err-ideal-clause-fault : goal.returns-in_err-ideal-clause-fault
returns-in_err-ideal-clause-fault g c =
    let p = err_from_is_err_and c.from_residual.result c.from_residual.ensures.1 in
    rw (p.1, p.2) (lists_refused (g.F.Field.ops c.args.field) c.args.lines.now.missing (head_of c.args.head) c.args.lines.now.left c.in_err-ideal.field-0.0 c.in_err-ideal.ensures.fault)

pub returns-clause-read : goal.returns-clause-read
returns-clause-read g c =
    is_read_over g.F.Field.ops c.args.field (g.met.F.Field.laws c.args.field) c.args.lines.now.missing c.args.head c.args.lines.now.left c.requires.size c.requires.named
    c.in_ok-ideal.ideal.items c.in_ok-ideal.generators.items c.in_ok-ideal.ensures.read c.in_ok-presentation.field-0 c.in_ok-presentation.ensures
