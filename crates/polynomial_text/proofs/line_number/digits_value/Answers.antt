use Rattle.std.proofs.Common.{arith}
use Rattle.std.proofs.lemmas.Str.Parse.{digit_at}
use Rattle.polynomial_text.proofs.LineDigits.{are_digits, value_room, value_next}
use Rattle.polynomial_text.proofs.line_number.digits_value.Goals as goal

pub overflow_mul-value : goal.overflow_mul-value
overflow_mul-value c =
    let room = value_room c.args.digits.now c.loop-d.d-index c.requires.digits c.requires.short c.loop-d-test.true in
    omega (arith, room, c.loop-d.invariant)

pub overflow_add-value : goal.overflow_add-value
overflow_add-value c =
    let room = value_room c.args.digits.now c.loop-d.d-index c.requires.digits c.requires.short c.loop-d-test.true in
    let digit = digit_at c.args.digits.now c.loop-d.d-index (are_digits c.args.digits.now c.requires.digits) c.loop-d-test.true in
    omega (arith, room, c.loop-d.invariant, digit.0, digit.1, c.from.ensures)

pub loop-d-preserved : goal.loop-d-preserved
loop-d-preserved c =
    let next = value_next c.args.digits.now c.loop-d.d-index c.requires.digits c.loop-d-test.true in
    omega (arith, next, c.loop-d.invariant, c.from.ensures)
