use Rattle.std.proofs.lemmas.Result.{err_from_is_err_and}
use Rattle.word_field.specs.Residues.{residues}
use Rattle.ext_field.specs.PairField.{pairs_of}
use Rattle.presentation_text.specs.Heading.{is_size}
use Rattle.presentation_text.specs.Meaning.{word_ops, pair_ops}
use Rattle.presentation_text.specs.Reading.AnyReading.{word, pair}
use Rattle.presentation_text.proofs.FieldKinds.{words, pairs_kind}
use Rattle.presentation_text.proofs.WholeTexts.{head_refused, over_refused, over_read}
use Rattle.presentation_text.proofs.reading.read_any.Goals as goal

pub returns-in_err-head-clause-refused : goal.returns-in_err-head-clause-refused
returns-in_err-head-clause-refused c =
    let p = err_from_is_err_and c.from_residual.result c.from_residual.ensures.1 in
    rw (p.1, p.2) (head_refused is_size c.args.bytes.now c.new-lines.result c.in_err-head.field-0.0 c.new-lines.ensures c.in_err-head.ensures.read)

pub returns-in_err-read_over-clause-refused : goal.returns-in_err-read_over-clause-refused
returns-in_err-read_over-clause-refused c =
    let p = err_from_is_err_and c.from_residual-in_err-read_over.result c.from_residual-in_err-read_over.ensures.1 in
    rw (p.1, p.2)
    (over_refused pair_ops pairs_of pair pairs_kind is_size c.args.bytes.now c.new-lines.result c.new-lines.ensures c.in-Some.field c.in_ok-head.head c.read_head.new.lines.left c.in_ok-head.ensures.read c.in-Some.ensures.size
    c.in_err-read_over.field-0.0 (rw c.in_ok-head.ensures.missing at c.in_err-read_over.ensures.fault))

pub returns-in-Some-clause-accepted : goal.returns-in-Some-clause-accepted
returns-in-Some-clause-accepted c =
    over_read pair_ops pairs_of pair pairs_kind is_size c.args.bytes.now c.new-lines.result c.new-lines.ensures c.in-Some.field c.in_ok-head.head c.read_head.new.lines.left c.in_ok-head.ensures.read c.in-Some.ensures.size
    c.in_ok-read_over.field-0 (rw c.in_ok-head.ensures.missing at c.in_ok-read_over.ensures.read)

pub returns-in_err-read_over-in-Some-new-clause-refused : goal.returns-in_err-read_over-in-Some-new-clause-refused
returns-in_err-read_over-in-Some-new-clause-refused c =
    let p = err_from_is_err_and c.from_residual-in_err-read_over-in-Some-new.result c.from_residual-in_err-read_over-in-Some-new.ensures.1 in
    rw (p.1, p.2)
    (over_refused word_ops residues word words is_size c.args.bytes.now c.new-lines.result c.new-lines.ensures c.in-Some-new.field c.in_ok-head.head c.read_head.new.lines.left c.in_ok-head.ensures.read c.in-Some-new.ensures.size
    c.in_err-read_over-in-Some-new.field-0.0 (rw c.in_ok-head.ensures.missing at c.in_err-read_over-in-Some-new.ensures.fault))

pub returns-clause-accepted : goal.returns-clause-accepted
returns-clause-accepted c =
    over_read word_ops residues word words is_size c.args.bytes.now c.new-lines.result c.new-lines.ensures c.in-Some-new.field c.in_ok-head.head c.read_head.new.lines.left c.in_ok-head.ensures.read c.in-Some-new.ensures.size
    c.in_ok-read_over-in-Some-new.field-0 (rw c.in_ok-head.ensures.missing at c.in_ok-read_over-in-Some-new.ensures.read)
