use Rattle.std.proofs.Common.{◌≡◌, ◌++◌, ap, sym, ◌∙◌, subst, append-nil}
use Rattle.word_field.specs.Field.{IsValue}
use Rattle.poly_core.specs.Names.{IsNamed}
use Rattle.poly_core.specs.Text.{term_text, AreValues, AreNamed}
use Rattle.poly_core.proofs.Texts.{value_at, named_at, after_term, after_terms, plus, plus_some, plus_none}
use Rattle.poly_core.proofs.polynomial.Poly.write.Goals as goal
use Rattle.poly_core.proofs.polynomial.Poly.write.Goals.{then-i-gt0+in_ok-push_bytes, else-i-gt0}

pub push_term-requires-clause-value : goal.push_term-requires-clause-value
push_term-requires-clause-value g c =
    subst (λ t. IsValue (g.F.Field.ops c.args.f.now) t.by) (sym c.index-terms-i.is)
    (value_at (g.F.Field.ops c.args.f.now) c.terms-terms.result.now c.loop-i.i c.index-terms-i.result (subst (AreValues (g.F.Field.ops c.args.f.now)) (sym c.terms-terms.ensures) c.requires.values) c.loop-i-test.true)

pub push_term-requires-clause-named : goal.push_term-requires-clause-named
push_term-requires-clause-named g c =
    subst (λ t. IsNamed c.args.names.now t.at) (sym c.index-terms-i.is)
    (named_at c.args.names.now c.terms-terms.result.now c.loop-i.i c.index-terms-i.result (subst (AreNamed c.args.names.now) (sym c.terms-terms.ensures) c.requires.named) c.loop-i-test.true)

pub loop-i-preserved : goal.loop-i-preserved
loop-i-preserved g c =
    let started : c.if-i-gt0.out.items ≡ c.loop-i.out.items ++ plus c.loop-i.i =
    elim c.if-i-gt0.branch [
      | then-i-gt0+in_ok-push_bytes w ↦ ap (λ v. v.items) w.out-is ∙ (w.in_ok-push_bytes.ensures ∙ ap (λ x. c.loop-i.out.items ++ x) (sym (plus_some c.loop-i.i w.if-i-gt0.true)))
      | else-i-gt0 w ↦ ap (λ v. v.items) w.out-is ∙ (sym (append-nil c.loop-i.out.items) ∙ ap (λ x. c.loop-i.out.items ++ x) (sym (plus_none c.loop-i.i w.if-i-gt0.false)))
    ] in
    after_term (term_text (g.F.Field.ops c.args.f.now) c.args.names.now) c.terms-terms.result.now c.loop-i.i c.index-terms-i.result c.loop-i.out.items c.if-i-gt0.out.items c.push_term.new.out.items _ c.loop-i-test.true c.index-terms-i.is started c.in_ok-push_term.ensures c.loop-i.invariant

pub returns : goal.returns
returns g c = after_terms (term_text (g.F.Field.ops c.args.f.now) c.args.names.now) c.terms-terms.result.now c.loop-i.i c.loop-i.out.items _ c.loop-i-test.false c.loop-i.invariant
