use Rattle.std.proofs.Common.{sym, subst}
use Rattle.polynomials.specs.Polynomial.{IsDegree}
use Rattle.poly_core.proofs.Calls.{first_degree}
use Rattle.poly_core.proofs.polynomial.Poly.degree.Goals as goal

pub returns-clause-greatest : goal.returns-clause-greatest
returns-clause-greatest g c f h =
    subst (λ d. IsDegree (g.F.Field.ops f) (g.O.Order.order c.args.o.now) d c.args.a.now) (sym c.degree.ensures)
    (first_degree (g.F.Field.ops f) (g.met.F.Field.laws f) (g.O.Order.order c.args.o.now) (g.met.O.Order.laws c.args.o.now) c.args.a.now c.in_ok-first.first.now c.in_ok-first.ensures.first.0 c.in_ok-first.ensures.first.1 h.decreasing)
