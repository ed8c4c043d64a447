use Rattle.std.proofs.Common.{refl, sym, subst}
use Rattle.std.specs.Prelude.{IsNone}
use Rattle.poly_core.specs.Presentation.{presented}
use Rattle.poly_core.specs.laws.Text.{decreasing_named, decreasing_values, names_monomials}
use Rattle.polynomials.specs.Polynomial.{IsDecreasing}
use Rattle.completion.proofs.ReportLines.{element_nonzero}
use Rattle.completion.proofs.report.push_line.Goals as goal

pub unreachable-requires : goal.unreachable-requires
unreachable-requires g c =
    element_nonzero (presented g.F.Field.ops g.O.Order.order c.args.p.now) c.args.element.now c.requires.element
    (c.lead.ensures.zero.0 (subst (λ o. IsNone o) (sym c.in_default.is) refl))

pub write_monomial-requires : goal.write_monomial-requires
write_monomial-requires g c =
    let P = presented g.F.Field.ops g.O.Order.order c.args.p.now in
    let d = subst (IsDecreasing P.field P.order) c.in-Some.ensures.first.1 c.requires.element.canonical.decreasing in
    names_monomials P.order.places c.args.p.now.names c.requires.presentation.names c.in-Some.first.now.at
    d.0.term.monomial

pub write-requires-clause-values : goal.write-requires-clause-values
write-requires-clause-values g c =
    let P = presented g.F.Field.ops g.O.Order.order c.args.p.now in
    decreasing_values P.field P.order c.args.element.now c.requires.element.canonical.decreasing

pub write-requires-clause-named : goal.write-requires-clause-named
write-requires-clause-named g c =
    let P = presented g.F.Field.ops g.O.Order.order c.args.p.now in
    decreasing_named P.field P.order c.args.p.now.names c.requires.presentation.names c.args.element.now
    c.requires.element.canonical.decreasing
