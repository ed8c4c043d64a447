use Rattle.std.proofs.Common.{◌++◌, [], ap, sym, ◌∙◌, subst}
use Rattle.std.specs.Prelude.{All}
use Rattle.word_field.specs.Field.{IsValue}
use Rattle.polynomials.specs.Polynomial.{coefficient, term_of, scaled, IsCanonical}
use Rattle.polynomials.specs.laws.Terms.{decreasing_values, canonical_multiple}
use Rattle.poly_core.proofs.Calls.{negate_one_not_zero, difference}
use Rattle.poly_core.proofs.polynomial.Poly.sub.Goals as goal

pub scale_terms-requires-clause-values : goal.scale_terms-requires-clause-values
scale_terms-requires-clause-values g c =
    subst (All (λ t. IsValue (g.F.Field.ops c.args.f.now) t.by)) (sym c.terms-2.ensures) (decreasing_values (g.F.Field.ops c.args.f.now) (g.O.Order.order c.args.o.now) c.args.b.now c.requires.b.decreasing)

pub merge-requires-clause-b : goal.merge-requires-clause-b
merge-requires-clause-b g c =
    subst (IsCanonical (g.F.Field.ops c.args.f.now) (g.O.Order.order c.args.o.now))
    (sym (c.in_ok-right.ensures ∙ (ap (λ x. scaled (g.F.Field.ops c.args.f.now) (term_of [] x) c.terms-2.result.now) (c.neg.ensures ∙ ap (g.F.Field.ops c.args.f.now).negate c.one.ensures) ∙
    ap (scaled (g.F.Field.ops c.args.f.now) (term_of [] ((g.F.Field.ops c.args.f.now).negate (g.F.Field.ops c.args.f.now).one))) c.terms-2.ensures)))
    (canonical_multiple (g.F.Field.ops c.args.f.now) (g.met.F.Field.laws c.args.f.now) (g.O.Order.order c.args.o.now) ((g.F.Field.ops c.args.f.now).negate (g.F.Field.ops c.args.f.now).one) c.args.b.now ((g.met.F.Field.laws c.args.f.now).negate_value (g.F.Field.ops c.args.f.now).one) (negate_one_not_zero (g.F.Field.ops c.args.f.now) (g.met.F.Field.laws c.args.f.now)) c.requires.b)

pub returns-clause-difference : goal.returns-clause-difference
returns-clause-difference g c =
    difference (g.F.Field.ops c.args.f.now) (g.met.F.Field.laws c.args.f.now) c.args.a.now c.args.b.now c.in_ok-terms.terms.items
    (λ m. c.in_ok-terms.ensures.sum m ∙
    ap (λ x. coefficient (g.F.Field.ops c.args.f.now) x m)
    (ap (λ x. x ++ c.in_ok-right.right.items) (c.in_ok-left.ensures ∙ c.terms.ensures) ∙
    ap (λ x. c.args.a.now ++ x)
    (c.in_ok-right.ensures ∙ (ap (λ x. scaled (g.F.Field.ops c.args.f.now) (term_of [] x) c.terms-2.result.now) (c.neg.ensures ∙ ap (g.F.Field.ops c.args.f.now).negate c.one.ensures) ∙
    ap (scaled (g.F.Field.ops c.args.f.now) (term_of [] ((g.F.Field.ops c.args.f.now).negate (g.F.Field.ops c.args.f.now).one))) c.terms-2.ensures))))
