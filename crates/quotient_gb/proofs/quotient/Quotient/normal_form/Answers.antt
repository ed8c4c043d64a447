use Rattle.std.proofs.Common.{◌≡◌, ◌≤◌, ◌⊎◌, sym, subst, true}
use Rattle.polynomials.specs.Polynomial.{degree_of}
use Rattle.poly_core.specs.Presentation.{presented}
use Rattle.quotient_gb.specs.Quotient.{QuotientState, IsQuotientOf}
use Rattle.quotient_gb.proofs.EveryDegree.{known_to}
use Rattle.quotient_gb.proofs.Knowing.{quotient_reducers, remainder_normal, remainder_degree, homogeneous_form}
use Rattle.quotient_gb.proofs.quotient.Quotient.normal_form.Goals as goal

pub remainder_by-requires : goal.remainder_by-requires
remainder_by-requires g c =
    let P = presented g.F.Field.ops g.O.Order.order c.args.p.now in
    let H = c.requires.presentation in
    let q = subst (IsQuotientOf P) (sym c.self.view_is) c.requires.quotient in
    record { presentation = H; places = c.requires.places; a = c.requires.canonical; basis = q.leads; reducers = quotient_reducers P H _ q }

pub returns-clause-normal : goal.returns-clause-normal
returns-clause-normal g c =
    let P = presented g.F.Field.ops g.O.Order.order c.args.p.now in
    let H = c.requires.presentation in
    let q = subst (IsQuotientOf P) (sym c.self.view_is) c.requires.quotient in
    let k = known_to P _ q (degree_of P.order c.args.a.now)
    (subst (λ (q : QuotientState g.row.F-Elem.Denot). (degree_of P.order c.args.a.now ≤ q.degree) ⊎ (q.closed ≡ true)) (sym c.self.view_is) c.requires.degree) in
    remainder_normal P H k.0 c.self.inside.basis.members.items k.2 c.args.a.now c.in_ok-rest.rest k.1 c.in_ok-rest.ensures.remainder

pub returns-clause-degree : goal.returns-clause-degree
returns-clause-degree g c =
    remainder_degree (presented g.F.Field.ops g.O.Order.order c.args.p.now) c.requires.presentation _ c.args.a.now c.in_ok-rest.rest c.in_ok-rest.ensures.canonical.decreasing c.in_ok-rest.ensures.remainder

pub returns-clause-homogeneous : goal.returns-clause-homogeneous
returns-clause-homogeneous g c =
    homogeneous_form (presented g.F.Field.ops g.O.Order.order c.args.p.now) c.requires.presentation c.args.a.now c.in_ok-rest.rest c.in_ok-rest.ensures.canonical.decreasing (returns-clause-normal g c)
