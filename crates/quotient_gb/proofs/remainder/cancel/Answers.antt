use Rattle.std.proofs.Common.{refl, sym, ◌∙◌, subst, [], ◌∷◌, arith}
use Rattle.std.proofs.lemmas.List.{nil_from_length}
use Rattle.polynomials.specs.Polynomial.{lead_monomial}
use Rattle.polynomials.specs.laws.Coefficients.{monic_some}
use Rattle.polynomials.specs.laws.Terms.{canonical_right}
use Rattle.monomial_order.specs.Monomial.{Divides}
use Rattle.poly_core.specs.Presentation.{presented}
use Rattle.quotient_gb.specs.Remainder.{IsReducerIn, IsLeadReduction}
use Rattle.quotient_gb.proofs.Remainders.{short_monomials, tail_factor, lead_reduction}
use Rattle.quotient_gb.proofs.remainder.cancel.Goals as goal

pub unreachable-requires : goal.unreachable-requires
unreachable-requires g c =
    let P = presented g.F.Field.ops g.O.Order.order c.args.p.now in
    let H = c.requires.presentation in
    monic_some P.field H.field P.order H.order c.args.g.now c.requires.g.monic (sym c.terms.ensures ∙ nil_from_length c.terms.result.now c.in_default.ensures.cases)

pub unreachable-requires-in_default-2 : goal.unreachable-requires-in_default-2
unreachable-requires-in_default-2 g c =
    (rw c.in_default-2.is at c.in_ok-cofactor.ensures.none) refl (subst (λ x. Divides (lead_monomial x) c.args.term.at) (sym c.terms.ensures ∙ c.in-Some.ensures.cases.0) c.requires.divides)

pub add_scaled-requires-clause-monomial : goal.add_scaled-requires-clause-monomial
add_scaled-requires-clause-monomial g c =
    let P = presented g.F.Field.ops g.O.Order.order c.args.p.now in
    let kg = subst (IsReducerIn P) (sym c.terms.ensures ∙ c.in-Some.ensures.cases.0) c.requires.g in
    (tail_factor P c.requires.presentation c.args.term c.args.work.now.terms c.requires.work c.in-Some.top.now c.in-Some.tail.now kg c.in-Some-2.cofactor
    (rw c.in-Some-2.is at c.in_ok-cofactor.ensures.trimmed) (rw c.in-Some-2.is at c.in_ok-cofactor.ensures.some) c.neg-c.result c.neg-c.ensures).monomial

pub add_scaled-requires-clause-small : goal.add_scaled-requires-clause-small
add_scaled-requires-clause-small g c =
    let P = presented g.F.Field.ops g.O.Order.order c.args.p.now in
    let kg = subst (IsReducerIn P) (sym c.terms.ensures ∙ c.in-Some.ensures.cases.0) c.requires.g in
    (tail_factor P c.requires.presentation c.args.term c.args.work.now.terms c.requires.work c.in-Some.top.now c.in-Some.tail.now kg c.in-Some-2.cofactor
    (rw c.in-Some-2.is at c.in_ok-cofactor.ensures.trimmed) (rw c.in-Some-2.is at c.in_ok-cofactor.ensures.some) c.neg-c.result c.neg-c.ensures).small

pub add_scaled-requires-clause-short : goal.add_scaled-requires-clause-short
add_scaled-requires-clause-short g c =
    let P = presented g.F.Field.ops g.O.Order.order c.args.p.now in
    let kg = subst (IsReducerIn P) (sym c.terms.ensures ∙ c.in-Some.ensures.cases.0) c.requires.g in
    let within = (tail_factor P c.requires.presentation c.args.term c.args.work.now.terms c.requires.work c.in-Some.top.now c.in-Some.tail.now kg c.in-Some-2.cofactor
    (rw c.in-Some-2.is at c.in_ok-cofactor.ensures.trimmed) (rw c.in-Some-2.is at c.in_ok-cofactor.ensures.some) c.neg-c.result c.neg-c.ensures).monomial.within in
    let places = c.requires.places in
    omega arith

pub add_scaled-requires-clause-short_terms : goal.add_scaled-requires-clause-short_terms
add_scaled-requires-clause-short_terms g c =
    let P = presented g.F.Field.ops g.O.Order.order c.args.p.now in
    let kg = subst (IsReducerIn P) (sym c.terms.ensures ∙ c.in-Some.ensures.cases.0) c.requires.g in
    short_monomials P c.requires.presentation c.requires.places c.in-Some.tail.now (canonical_right P.field P.order (c.in-Some.top.now ∷ []) c.in-Some.tail.now kg.canonical)

pub returns : goal.returns
returns g c =
    let P = presented g.F.Field.ops g.O.Order.order c.args.p.now in
    let kg = subst (IsReducerIn P) (sym c.terms.ensures ∙ c.in-Some.ensures.cases.0) c.requires.g in
    let r = lead_reduction P c.requires.presentation c.args.term c.args.work.now.terms c.requires.work c.in-Some.top.now c.in-Some.tail.now kg c.in-Some-2.cofactor
    (rw c.in-Some-2.is at c.in_ok-cofactor.ensures.trimmed) (rw c.in-Some-2.is at c.in_ok-cofactor.ensures.some) c.neg-c.result c.neg-c.ensures c.add_scaled.new.self.terms c.in_ok-add_scaled.ensures.canonical
    (rw c.in_ok-reserve.ensures.terms at c.in_ok-add_scaled.ensures.sum) in
    subst (λ x. IsLeadReduction P (c.args.term ∷ c.args.work.now.terms) x c.add_scaled.new.self.terms) (sym (sym c.terms.ensures ∙ c.in-Some.ensures.cases.0)) r
