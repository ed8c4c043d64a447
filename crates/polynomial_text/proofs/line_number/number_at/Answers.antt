use Rattle.polynomial_text.specs.Bytes.{is_digit}
use Rattle.polynomial_text.specs.laws.Fronts.{front_passes}
use Rattle.polynomial_text.proofs.line_number.number_at.Goals as goal

pub digits_value-requires-clause-digits : goal.digits_value-requires-clause-digits
digits_value-requires-clause-digits c = rw c.split.ensures.front (front_passes is_digit c.args.bytes.now)
