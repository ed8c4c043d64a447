use Rattle.std.proofs.Common.{[], ap, sym, ◌∙◌, subst}
use Rattle.std.specs.Prelude.{All}
use Rattle.word_field.specs.Field.{IsValue}
use Rattle.polynomials.specs.Polynomial.{coefficient, term_of, scaled, IsCanonical}
use Rattle.polynomials.specs.laws.Value.{coefficient-scaled}
use Rattle.polynomials.specs.laws.Terms.{decreasing_values, canonical_multiple}
use Rattle.poly_core.proofs.Calls.{zero_multiple, told_unequal}
use Rattle.poly_core.proofs.polynomial.Poly.scale.Goals as goal

pub returns-then-eq-clause-multiple : goal.returns-then-eq-clause-multiple
returns-then-eq-clause-multiple g c m =
    ap (λ x. coefficient (g.F.Field.ops c.args.f.now) x m) c.zero-then-eq.ensures ∙ zero_multiple (g.F.Field.ops c.args.f.now) (g.met.F.Field.laws c.args.f.now) c.args.c ((g.met.F.Field.eq_is c.args.c c.zero.result).0 (sym c.eq.ensures ∙ c.if-eq.true) ∙ c.zero.ensures) c.args.a.now m

pub scale_terms-requires-clause-values : goal.scale_terms-requires-clause-values
scale_terms-requires-clause-values g c =
    subst (All (λ t. IsValue (g.F.Field.ops c.args.f.now) t.by)) (sym c.terms.ensures) (decreasing_values (g.F.Field.ops c.args.f.now) c.requires.a.0 c.args.a.now c.requires.a.1.decreasing)

pub returns-clause-canonical : goal.returns-clause-canonical
returns-clause-canonical g c o h =
    subst (IsCanonical (g.F.Field.ops c.args.f.now) o) (sym (c.in_ok-terms.ensures ∙ ap (scaled (g.F.Field.ops c.args.f.now) (term_of [] c.args.c)) c.terms.ensures))
    (canonical_multiple (g.F.Field.ops c.args.f.now) (g.met.F.Field.laws c.args.f.now) o c.args.c c.args.a.now c.requires.factor (λ z. told_unequal c.eq.result (g.F.Elem.PartialEq.eq c.args.c c.zero.result) c.if-eq.false c.eq.ensures ((g.met.F.Field.eq_is c.args.c c.zero.result).1 (z ∙ sym c.zero.ensures))) h)

pub returns-clause-multiple : goal.returns-clause-multiple
returns-clause-multiple g c m =
    ap (λ x. coefficient (g.F.Field.ops c.args.f.now) x m) (c.in_ok-terms.ensures ∙ ap (scaled (g.F.Field.ops c.args.f.now) (term_of [] c.args.c)) c.terms.ensures) ∙
    coefficient-scaled (g.F.Field.ops c.args.f.now) (g.met.F.Field.laws c.args.f.now) c.args.c c.args.a.now m
