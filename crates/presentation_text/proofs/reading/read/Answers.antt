use Rattle.std.proofs.lemmas.Result.{err_from_is_err_and}
use Rattle.word_field.specs.Residues.{residues, is_listed}
use Rattle.presentation_text.specs.Meaning.{word_ops}
use Rattle.presentation_text.specs.Reading.AnyReading.{word}
use Rattle.presentation_text.proofs.FieldKinds.{words}
use Rattle.presentation_text.proofs.ReadDiffers.{read_more}
use Rattle.presentation_text.proofs.WholeTexts.{head_refused, read_in, over_refused, over_read, if_ok, if_err}
use Rattle.presentation_text.proofs.reading.read.Goals as goal

pub returns-in_err-head-clause-refused : goal.returns-in_err-head-clause-refused
returns-in_err-head-clause-refused c =
    let p = err_from_is_err_and c.from_residual.result c.from_residual.ensures.1 in
    rw (p.1, p.2) (head_refused is_listed c.args.bytes.now c.new-lines.result c.in_err-head.field-0.0 c.new-lines.ensures c.in_err-head.ensures.read)

pub returns-clause-accepted : goal.returns-clause-accepted
returns-clause-accepted c =
    if_ok c.read_over.result
    (λ p is. read_in word_ops p (λ r e. read_more c.args.bytes.now (word r) e)
    (over_read word_ops residues word words is_listed c.args.bytes.now c.new-lines.result c.new-lines.ensures c.in-Some.field c.in_ok-head.head c.read_head.new.lines.left c.in_ok-head.ensures.read c.in-Some.ensures.size p is))
    (rw c.in_ok-head.ensures.missing at c.read_over.ensures.read)

pub returns-clause-refused : goal.returns-clause-refused
returns-clause-refused c =
    if_err c.read_over.result
    (over_refused word_ops residues word words is_listed c.args.bytes.now c.new-lines.result c.new-lines.ensures c.in-Some.field c.in_ok-head.head c.read_head.new.lines.left c.in_ok-head.ensures.read c.in-Some.ensures.size)
    (rw c.in_ok-head.ensures.missing at c.read_over.ensures.fault)
