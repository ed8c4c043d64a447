use Rattle.std.proofs.Common.{sym, ◌∙◌, ap}
use Rattle.polynomials.specs.Polynomial.{coefficient}
use Rattle.subduction.proofs.coefficients.lacks_variable.Goals as goal

pub returns : goal.returns
returns g c =
    let K = g.F.Field.ops c.args.f.now in
    let at = c.coefficient_at.ensures ∙ ap (coefficient K c.args.a.now) c.in_ok-variable.ensures in
    let is = g.met.F.Field.eq_is c.coefficient_at.result c.zero.result in (
      λ t. sym at ∙ (is.0 (sym c.eq.ensures ∙ t) ∙ c.zero.ensures),
      λ z. c.eq.ensures ∙ is.1 (at ∙ (z ∙ sym c.zero.ensures)),
    )
