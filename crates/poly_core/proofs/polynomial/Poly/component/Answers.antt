use Rattle.std.proofs.Common.{ap, sym, ◌∙◌, subst}
use Rattle.std.specs.Prelude.{All}
use Rattle.polynomials.specs.Polynomial.{component, IsCanonical, IsComponent, IsMeasured}
use Rattle.polynomials.specs.laws.Terms.{canonical_measured, canonical_component}
use Rattle.polynomials.specs.laws.Degrees.{component_is}
use Rattle.poly_core.proofs.polynomial.Poly.component.Goals as goal

pub terms_of_degree-requires : goal.terms_of_degree-requires
terms_of_degree-requires g c =
    subst (All (IsMeasured (g.O.Order.order c.args.o.now))) (sym c.terms.ensures) (canonical_measured (g.F.Field.ops c.requires.0) (g.O.Order.order c.args.o.now) c.args.a.now c.requires.1)

pub returns-clause-canonical : goal.returns-clause-canonical
returns-clause-canonical g c f h =
    subst (IsCanonical (g.F.Field.ops f) (g.O.Order.order c.args.o.now)) (sym (c.in_ok-terms.ensures ∙ ap (component (g.O.Order.order c.args.o.now) c.args.d) c.terms.ensures))
    (canonical_component (g.F.Field.ops f) (g.O.Order.order c.args.o.now) c.args.d c.args.a.now h)

pub returns-clause-component : goal.returns-clause-component
returns-clause-component g c f h =
    subst (IsComponent (g.F.Field.ops f) (g.O.Order.order c.args.o.now) c.args.d c.args.a.now) (sym (c.in_ok-terms.ensures ∙ ap (component (g.O.Order.order c.args.o.now) c.args.d) c.terms.ensures))
    (component_is (g.F.Field.ops f) (g.met.F.Field.laws f) (g.O.Order.order c.args.o.now) (g.met.O.Order.laws c.args.o.now) c.args.d c.args.a.now)
