use Rattle.std.proofs.Common.{◌≤◌, refl, sym, ◌∙◌, ap, subst}
use Rattle.polynomials.specs.laws.Coefficients.{monic_some}
use Rattle.monomial_order.specs.Monomial.{product, IsMonomial, Divides}
use Rattle.monomial_order.specs.laws.Monomial.{product_comm}
use Rattle.polynomials.specs.Polynomial.{Same, term_of, scaled, lead_monomial}
use Rattle.poly_core.specs.Presentation.{presented}
use Rattle.quotient_gb.proofs.Remainders.{raising_factor}
use Rattle.quotient_gb.proofs.s_polynomial.raised.Goals as goal

pub unreachable-requires : goal.unreachable-requires
unreachable-requires g c =
    let P = presented g.F.Field.ops g.O.Order.order c.args.p.now in
    monic_some P.field c.requires.presentation.field P.order c.requires.presentation.order c.args.g.now c.requires.g.monic (c.in_default.ensures.zero.0 refl)

pub unreachable-requires-in_default-2 : goal.unreachable-requires-in_default-2
unreachable-requires-in_default-2 g c =
    (rw c.in_default-2.is at c.in_ok-u.ensures.none) refl (subst (λ x. Divides x c.args.top.now) (ap lead_monomial c.in-Some.ensures.first.1) c.requires.divides)

pub times_term-requires : goal.times_term-requires
times_term-requires g c =
    let P = presented g.F.Field.ops g.O.Order.order c.args.p.now in
    let u = c.in-Some-2.u in
    let whole = product_comm u (lead_monomial c.args.g.now) ∙ (ap (λ x. product x u) (ap lead_monomial c.in-Some.ensures.first.1) ∙ (rw c.in-Some-2.is at c.in_ok-u.ensures.some)) in
    let f = raising_factor P c.requires.presentation c.args.g.now c.requires.g u (rw c.in-Some-2.is at c.in_ok-u.ensures.trimmed) (subst (IsMonomial P.order.places) (sym whole) c.requires.top) (subst (λ x. P.order.degree x ≤ 65535) (sym whole) c.requires.small) c.one.result c.one.ensures in
    record { a = c.requires.g.canonical; monomial = f.monomial; factor = f.value; small = f.small }

pub returns-clause-multiple : goal.returns-clause-multiple
returns-clause-multiple g c =
    let P = presented g.F.Field.ops g.O.Order.order c.args.p.now in
    let u = c.in-Some-2.u in (
      u,
      (rw c.in-Some-2.is at c.in_ok-u.ensures.trimmed),
      product_comm u (lead_monomial c.args.g.now) ∙ (ap (λ x. product x u) (ap lead_monomial c.in-Some.ensures.first.1) ∙ (rw c.in-Some-2.is at c.in_ok-u.ensures.some)),
      subst (λ x. Same P.field c.in_ok-multiple.multiple (scaled P.field (term_of u x) c.args.g.now)) c.one.ensures c.in_ok-multiple.ensures.product,
    )
