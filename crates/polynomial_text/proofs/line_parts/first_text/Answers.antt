use Rattle.std.proofs.Common.{false, sym, ◌∙◌}
use Rattle.polynomial_text.specs.laws.Fronts.{sign_left_out}
use Rattle.polynomial_text.proofs.line_parts.first_text.Goals as goal

pub returns-in-Some : goal.returns-in-Some
returns-in-Some c =
    sign_left_out c.args.line.now c.signed_part.result.0.now c.in-Some.rest.text.now c.in-Some.rest.minus
    (rw c.in-Some.is at (c.signed_part.ensures.parts false))
    (sym c.has_all.ensures ∙ c.if-has_all.true)
