use Rattle.std.proofs.Common.{[], ◌∷◌, subst, arith}
use Rattle.word_field.specs.Residues.{residues}
use Rattle.monomial_order.specs.laws.Ties.{weight_laws}
use Rattle.polynomials.specs.laws.Terms.{IsSmall-left, IsSmall-multiple, small_times}
use Rattle.polynomials.specs.Polynomial.{scaled}
use Rattle.poly_core.specs.Presentation.{weight_order_of}
use Rattle.polynomial_text.specs.Degrees.{IsLow}
use Rattle.worked_cases.proofs.ShortMonomials.{short_monomials}
use Rattle.worked_cases.proofs.chains.add.Goals as goal

pub add_scaled-requires-clause-small : goal.add_scaled-requires-clause-small
add_scaled-requires-clause-small c =
    let o = c.args.p.now.order in
    let K = residues c.args.p.now.field.modulus in
    let t = c.in-Some-lead.t.now in
    let low = subst (IsLow (weight_order_of o)) c.in-Some-lead.ensures.first.1 c.in_ok-factor.ensures.low in
    rw c.terms-in-Some-lead.ensures
    (IsSmall-left (weight_order_of o) (scaled K t c.in_ok-terms.terms) []
    (small_times K (weight_order_of o) (weight_laws o.weights.items o.rows.items o.tie o.weights_in_range) (t ∷ []) c.in_ok-terms.terms 30000 30000 (low.0, tt) c.in_ok-terms.ensures.low (omega arith)))

pub add_scaled-requires-clause-short_terms : goal.add_scaled-requires-clause-short_terms
add_scaled-requires-clause-short_terms c =
    rw c.terms-in-Some-lead.ensures
    (short_monomials (residues c.args.p.now.field.modulus) (weight_order_of c.args.p.now.order) 32 c.in_ok-terms.terms c.in_ok-terms.ensures.canonical.decreasing c.args.p.now.order.few_weights)

pub add_scaled-requires-in-None-clause-small : goal.add_scaled-requires-in-None-clause-small
add_scaled-requires-in-None-clause-small c =
    rw (c.terms-in-None.ensures, c.one-one.ensures)
    (IsSmall-multiple (residues c.args.p.now.field.modulus) (weight_order_of c.args.p.now.order) c.zero.result c.in_ok-terms.terms c.in_ok-terms.ensures.canonical.small)

pub add_scaled-requires-in-None-clause-short_terms : goal.add_scaled-requires-in-None-clause-short_terms
add_scaled-requires-in-None-clause-short_terms c =
    rw c.terms-in-None.ensures
    (short_monomials (residues c.args.p.now.field.modulus) (weight_order_of c.args.p.now.order) 32 c.in_ok-terms.terms c.in_ok-terms.ensures.canonical.decreasing c.args.p.now.order.few_weights)
