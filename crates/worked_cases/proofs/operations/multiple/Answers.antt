use Rattle.std.proofs.Common.{[], ◌∷◌, subst, arith}
use Rattle.word_field.specs.Residues.{residues}
use Rattle.monomial_order.specs.laws.Ties.{weight_laws}
use Rattle.polynomials.specs.laws.Terms.{IsSmall-left, small_times}
use Rattle.polynomials.specs.Polynomial.{scaled}
use Rattle.poly_core.specs.Presentation.{weight_order_of}
use Rattle.polynomial_text.specs.Degrees.{IsLow}
use Rattle.worked_cases.proofs.operations.multiple.Goals as goal

pub times_term-requires-clause-small : goal.times_term-requires-clause-small
times_term-requires-clause-small c =
    let o = c.args.p.now.order in
    let K = residues c.args.p.now.field.modulus in
    let t = c.in-Some.t.now in
    let low = subst (IsLow (weight_order_of o)) c.in-Some.ensures.first.1 c.requires.low_b in
    IsSmall-left (weight_order_of o) (scaled K t c.args.a.now) []
    (small_times K (weight_order_of o) (weight_laws o.weights.items o.rows.items o.tie o.weights_in_range) (t ∷ []) c.args.a.now 30000 30000 (low.0, tt) c.requires.low (omega arith))
