use Rattle.std.proofs.Common.{sym, subst}
use Rattle.word_field.specs.Residues.{residues, is_listed}
use Rattle.presentation_text.specs.Reading.{reading_with}
use Rattle.presentation_text.specs.Reading.AnyReading.{word}
use Rattle.presentation_text.specs.Meaning.{word_ops, IsTextOf, IsFaultOf}
use Rattle.presentation_text.proofs.FieldKinds.{words}
use Rattle.presentation_text.proofs.TextRead.{presentation_read, presentation_read_with}
use Rattle.presentation_text.proofs.ReadingLaws.{read_once, no_outcome}
use Rattle.presentation_text.proofs.laws.read_written.Goals as goal

pub returns-in-Ok-clause-same : goal.returns-in-Ok-clause-same
returns-in-Ok-clause-same c =
    let is : IsTextOf word_ops c.args.p.now c.as_slice.result.now = subst (IsTextOf word_ops c.args.p.now) (sym c.as_slice.ensures.value) c.in_ok-text.ensures in
    read_once word_ops residues word words c.args.p.now c.in-Ok.copy c.as_slice.result.now (presentation_read word_ops residues word words c.args.p.now c.as_slice.result.now c.requires is) c.in-Ok.ensures.accepted

pub unreachable-requires : goal.unreachable-requires
unreachable-requires c =
    let is : IsTextOf word_ops c.args.p.now c.as_slice.result.now = subst (IsTextOf word_ops c.args.p.now) (sym c.as_slice.ensures.value) c.in_ok-text.ensures in
    let fault : IsFaultOf (reading_with is_listed c.as_slice.result.now) c.in-Err-At.field-0 = c.in-Err-At.ensures.refused in
    let found = presentation_read_with word_ops residues word words is_listed c.args.p.now c.as_slice.result.now c.args.p.now.field.listed c.requires is in
    no_outcome (reading_with is_listed c.as_slice.result.now) (word found.present) (c.in-Err-At.field-0-0, c.in-Err-At.field-0-1) found.reading (subst (IsFaultOf (reading_with is_listed c.as_slice.result.now)) c.in-Err-At.field-0-is fault)
