use Rattle.std.proofs.Common.{ap, sym, ◌∙◌, subst}
use Rattle.polynomials.specs.Polynomial.{coefficient, term_of, scaled, IsCanonical}
use Rattle.polynomials.specs.laws.Terms.{IsDecreasing-scaled}
use Rattle.poly_core.proofs.Calls.{zero_scaled, told_unequal}
use Rattle.poly_core.proofs.polynomial.Poly.times_term.Goals as goal

pub returns-then-eq-clause-product : goal.returns-then-eq-clause-product
returns-then-eq-clause-product g c m =
    ap (λ x. coefficient (g.F.Field.ops c.args.f.now) x m) c.zero-then-eq.ensures ∙ zero_scaled (g.F.Field.ops c.args.f.now) (g.met.F.Field.laws c.args.f.now) c.args.m.now c.args.c ((g.met.F.Field.eq_is c.args.c c.zero.result).0 (sym c.eq.ensures ∙ c.if-eq.true) ∙ c.zero.ensures) c.args.a.now m

pub returns-clause-canonical : goal.returns-clause-canonical
returns-clause-canonical g c =
    subst (IsCanonical (g.F.Field.ops c.args.f.now) (g.O.Order.order c.args.o.now)) (sym (c.in_ok-terms.ensures ∙ ap (scaled (g.F.Field.ops c.args.f.now) (term_of c.args.m.now c.args.c)) c.terms.ensures))
    record {
      decreasing = IsDecreasing-scaled (g.F.Field.ops c.args.f.now) (g.met.F.Field.laws c.args.f.now) (g.O.Order.order c.args.o.now) (g.met.O.Order.laws c.args.o.now) (term_of c.args.m.now c.args.c) c.args.a.now record { monomial = c.requires.monomial; value = c.requires.factor } (λ z. told_unequal c.eq.result (g.F.Elem.PartialEq.eq c.args.c c.zero.result) c.if-eq.false c.eq.ensures ((g.met.F.Field.eq_is c.args.c c.zero.result).1 (z ∙ sym c.zero.ensures))) c.requires.a.decreasing;
      small = c.requires.small;
    }
