use Rattle.std.proofs.Common.{refl, [], ap, sym, ◌∙◌, subst}
use Rattle.std.specs.Prelude.{All}
use Rattle.word_field.specs.Field.{IsValue}
use Rattle.polynomials.specs.Polynomial.{coefficient, first_coefficient, term_of, scaled, IsCanonical}
use Rattle.polynomials.specs.laws.Terms.{decreasing_values, canonical_multiple}
use Rattle.poly_core.proofs.Calls.{zero_divided, inverse_not_zero, divided}
use Rattle.poly_core.proofs.polynomial.Poly.monic.Goals as goal

pub returns-in_default-clause-multiple : goal.returns-in_default-clause-multiple
returns-in_default-clause-multiple g c m =
    zero_divided (g.F.Field.ops c.args.f.now) (g.met.F.Field.laws c.args.f.now) c.args.a.now c.zero.result (c.in_default.ensures.zero.0 refl) c.zero.ensures m

pub scale_terms-requires-clause-values : goal.scale_terms-requires-clause-values
scale_terms-requires-clause-values g c =
    subst (All (λ t. IsValue (g.F.Field.ops c.args.f.now) t.by)) (sym c.terms.ensures) (decreasing_values (g.F.Field.ops c.args.f.now) c.requires.0 c.args.a.now c.requires.1.decreasing)

pub returns-clause-canonical : goal.returns-clause-canonical
returns-clause-canonical g c o h =
    subst (IsCanonical (g.F.Field.ops c.args.f.now) o) (sym (c.in_ok-terms.ensures ∙ ap (scaled (g.F.Field.ops c.args.f.now) (term_of [] c.in-Some-inv.inverse)) c.terms.ensures))
    (canonical_multiple (g.F.Field.ops c.args.f.now) (g.met.F.Field.laws c.args.f.now) o c.in-Some-inv.inverse c.args.a.now c.in-Some-inv.ensures.value
    (inverse_not_zero (g.F.Field.ops c.args.f.now) (g.met.F.Field.laws c.args.f.now) c.in-Some.first.now.by c.in-Some-inv.inverse c.in-Some-inv.ensures.some) h)

pub returns-clause-multiple : goal.returns-clause-multiple
returns-clause-multiple g c m =
    divided (g.F.Field.ops c.args.f.now) (g.met.F.Field.laws c.args.f.now) (first_coefficient (g.F.Field.ops c.args.f.now) c.args.a.now) c.in-Some-inv.inverse c.args.a.now
    (ap (λ x. (g.F.Field.ops c.args.f.now).times x c.in-Some-inv.inverse) (ap (first_coefficient (g.F.Field.ops c.args.f.now)) c.in-Some.ensures.first.1) ∙ c.in-Some-inv.ensures.some) m ∙
    ap (λ x. (g.F.Field.ops c.args.f.now).times (first_coefficient (g.F.Field.ops c.args.f.now) c.args.a.now) (coefficient (g.F.Field.ops c.args.f.now) x m)) (sym (c.in_ok-terms.ensures ∙ ap (scaled (g.F.Field.ops c.args.f.now) (term_of [] c.in-Some-inv.inverse)) c.terms.ensures))
