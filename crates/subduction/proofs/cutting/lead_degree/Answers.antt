use Rattle.std.proofs.Common.{refl, sym, ◌∙◌, ap}
use Rattle.monomial_order.specs.laws.Comparing.{degree_one}
use Rattle.polynomials.specs.Polynomial.{degree_of}
use Rattle.subduction.proofs.cutting.lead_degree.Goals as goal

pub returns-in-None : goal.returns-in-None
returns-in-None g c =
    let O = g.O.Order.order c.args.o.now in
    sym (ap (degree_of O) (c.in-None.ensures.zero.0 refl) ∙ degree_one O (g.met.O.Order.laws c.args.o.now))
