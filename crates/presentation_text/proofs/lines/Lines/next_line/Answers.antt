use Rattle.std.proofs.Common.{sym, ap, ◌∙◌, arith, length}
use Rattle.presentation_text.proofs.ContentLines.{content_taken, content_passed, content_over, missing_over}
use Rattle.presentation_text.proofs.lines.Lines.next_line.Goals as goal

pub returns-then-not-is_skipped-clause-line : goal.returns-then-not-is_skipped-clause-line
returns-then-not-is_skipped-clause-line c =
    sym c.loop-number.invariant.left ∙ content_taken c.loop-number.self-inside.number c.first_line.result.0.now c.loop-number.self-inside.rest.now c.first_line.result.1.now c.first_line.ensures.lines (sym c.is_skipped.ensures ∙ c.if-not-is_skipped.true)

pub loop-number-preserved : goal.loop-number-preserved
loop-number-preserved c = record {
  left = sym (content_passed c.loop-number.self-inside.number c.first_line.result.0.now c.loop-number.self-inside.rest.now c.first_line.result.1.now c.first_line.ensures.lines (sym c.is_skipped.ensures ∙ c.if-not-is_skipped.false)) ∙ c.loop-number.invariant.left;
  missing = omega (arith, ap length c.first_line.ensures.lines, c.loop-number.invariant.missing);
  fits = omega (arith, c.first_line.ensures.shorter, c.loop-number.invariant.fits);
}

pub returns-clause-none : goal.returns-clause-none
returns-clause-none c = (
  sym c.loop-number.invariant.left ∙ content_over c.loop-number.self-inside.number c.loop-number.self-inside.rest.now (sym c.loop-number-test.ensures),
  missing_over c.loop-number.self-inside.number c.loop-number.self-inside.rest.now (sym c.loop-number-test.ensures) ∙ c.loop-number.invariant.missing,
)
