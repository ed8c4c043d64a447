use Rattle.std.proofs.Common.{refl, sym, ap, ◌∙◌}
use Rattle.monomial_order.specs.laws.Comparing.{degree_one}
use Rattle.monomial_order.specs.laws.Ties.{weight_laws}
use Rattle.polynomials.specs.Polynomial.{degree_of}
use Rattle.poly_core.specs.Presentation.{weight_order_of}
use Rattle.worked_rows.proofs.rings.degree.Goals as goal

pub returns-in-None : goal.returns-in-None
returns-in-None c =
    let o = c.args.p.now.order in
    sym (ap (degree_of (weight_order_of o)) (c.in-None.ensures.zero.0 refl) ∙ degree_one (weight_order_of o) (weight_laws o.weights.items o.rows.items o.tie o.weights_in_range))
