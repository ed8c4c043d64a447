use Rattle.std.proofs.Common.{sym, ◌∙◌, subst}
use Rattle.polynomials.specs.laws.Coefficients.{monic_some}
use Rattle.monomial_order.specs.Monomial.{Divides}
use Rattle.monomial_order.specs.laws.Cofactors.{Divides-least_common_multiple, Divides-least_common_multiple_right}
use Rattle.polynomials.specs.Polynomial.{term_of, scaled, lead_monomial}
use Rattle.polynomials.specs.laws.Congruence.{minus_same}
use Rattle.poly_core.specs.Presentation.{presented}
use Rattle.quotient_gb.proofs.Remainders.{lcm_monomial}
use Rattle.quotient_gb.proofs.s_polynomial.s_polynomial.Goals as goal

pub common_multiple-requires : goal.common_multiple-requires
common_multiple-requires g c =
    let P = presented g.F.Field.ops g.O.Order.order c.args.p.now in
    let H = c.requires.presentation in
    record { g = monic_some P.field H.field P.order H.order c.args.g.now c.requires.g.monic; h = monic_some P.field H.field P.order H.order c.args.h.now c.requires.h.monic }

pub raised-requires-clause-top : goal.raised-requires-clause-top
raised-requires-clause-top g c = lcm_monomial (presented g.F.Field.ops g.O.Order.order c.args.p.now) c.requires.presentation c.args.g.now c.args.h.now c.requires.g c.requires.h c.in_ok-top.top c.in_ok-top.ensures

pub raised-requires-2-clause-top : goal.raised-requires-2-clause-top
raised-requires-2-clause-top g c = lcm_monomial (presented g.F.Field.ops g.O.Order.order c.args.p.now) c.requires.presentation c.args.g.now c.args.h.now c.requires.g c.requires.h c.in_ok-top.top c.in_ok-top.ensures

pub raised-requires-clause-divides : goal.raised-requires-clause-divides
raised-requires-clause-divides g c =
    subst (Divides (lead_monomial c.args.g.now)) (sym c.in_ok-top.ensures) (Divides-least_common_multiple (lead_monomial c.args.g.now) (lead_monomial c.args.h.now))

pub raised-requires-2-clause-divides : goal.raised-requires-2-clause-divides
raised-requires-2-clause-divides g c =
    subst (Divides (lead_monomial c.args.h.now)) (sym c.in_ok-top.ensures) (Divides-least_common_multiple_right (lead_monomial c.args.g.now) (lead_monomial c.args.h.now))

pub returns-clause-difference : goal.returns-clause-difference
returns-clause-difference g c =
    let P = presented g.F.Field.ops g.O.Order.order c.args.p.now in
    let u = c.in_ok-left.ensures.multiple in
    let v = c.in_ok-right.ensures.multiple in (
      u.0,
      v.0,
      record { left_trimmed = u.1; right_trimmed = v.1; left = u.2 ∙ c.in_ok-top.ensures; right = v.2 ∙ c.in_ok-top.ensures },
      λ k. c.in_ok-difference.ensures.difference k ∙
          minus_same P.field c.requires.presentation.field c.in_ok-left.left (scaled P.field (term_of u.0 P.field.one) c.args.g.now) c.in_ok-right.right (scaled P.field (term_of v.0 P.field.one) c.args.h.now) u.3 v.3 k,
    )
