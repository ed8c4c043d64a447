use Rattle.std.proofs.Common.{◌≡◌, ◌≢◌, ℕ, sym, ◌∙◌, ap, List, [], ◌∷◌, ◌++◌, length, cond, true, false, nat_eq, append_assoc, eq-eqb}
use Rattle.std.specs.Fmt.{decimal}
use Rattle.std.proofs.lemmas.Bool.{ne_eqb}
use Rattle.word_field.specs.Field.{FieldOps}
use Rattle.poly_core.specs.declared.place_names.Names.{Names}
use Rattle.polynomials.specs.Polynomial.{term_of}
use Rattle.poly_core.specs.Text.{factors_text, term_text}
use Rattle.poly_core.proofs.Texts.{on_ok}
use Rattle.poly_core.proofs.text.push_term.Goals as goal
use Rattle.poly_core.proofs.text.push_term.Goals.{then-coefficient-ne1+in_ok-push_decimal+in_ok-push_byte, else-coefficient-ne1}

module _ {E : Type 0} (K : FieldOps E) (names : Names) where
  with_coefficient : (out m : List ℕ) (b : E) → nat_eq (length m) 0 ≡ false → K.word b ≢ 1 →
      ((out ++ decimal (K.word b)) ++ 42 ∷ []) ++ factors_text names m ≡ out ++ term_text K names (term_of m b)
  with_coefficient out [] b h n = let e : true ≡ false = h in cc
  with_coefficient out (e ∷ m) b h n =
      append_assoc (out ++ decimal (K.word b)) (42 ∷ []) (factors_text names (e ∷ m)) ∙
      (append_assoc out (decimal (K.word b)) (42 ∷ factors_text names (e ∷ m)) ∙
      ap (λ t. out ++ cond t (factors_text names (e ∷ m)) (decimal (K.word b) ++ (42 ∷ factors_text names (e ∷ m)))) (sym (ne_eqb (K.word b) 1 n)))

  monomial_alone : (out m : List ℕ) (b : E) → nat_eq (length m) 0 ≡ false → K.word b ≡ 1 → out ++ factors_text names m ≡ out ++ term_text K names (term_of m b)
  monomial_alone out [] b h n = let e : true ≡ false = h in cc
  monomial_alone out (e ∷ m) b h n =
      ap (λ t. out ++ cond t (factors_text names (e ∷ m)) (decimal (K.word b) ++ (42 ∷ factors_text names (e ∷ m)))) (sym (eq-eqb (K.word b) 1 n))

pub returns : goal.returns
returns g c =
    let some : nat_eq (length c.args.t.now.at) 0 ≡ false = ap (λ p. nat_eq (length p) 0) (sym c.as_slice-places.ensures.same) ∙ (sym c.is_empty.ensures ∙ c.if-is_empty.false) in
    let whole : c.if-coefficient-ne1.out.items ++ factors_text c.args.names.now c.as_slice-places.result.now ≡ c.args.out.now.items ++ term_text (g.F.Field.ops c.args.f.now) c.args.names.now c.args.t.now =
    ap (λ p. c.if-coefficient-ne1.out.items ++ factors_text c.args.names.now p) c.as_slice-places.ensures.same ∙
    elim c.if-coefficient-ne1.branch [
      | then-coefficient-ne1+in_ok-push_decimal+in_ok-push_byte w ↦
          ap (λ x. x ++ factors_text c.args.names.now c.args.t.now.at)
          (ap (λ v. v.items) w.out-is ∙ (w.in_ok-push_byte.ensures ∙
          ap (λ x. x ++ 42 ∷ []) (w.in_ok-push_decimal.ensures ∙ ap (λ n. c.args.out.now.items ++ decimal n) c.to_word-coefficient.ensures))) ∙
          with_coefficient (g.F.Field.ops c.args.f.now) c.args.names.now c.args.out.now.items c.args.t.now.at c.args.t.now.by some (λ e. w.if-coefficient-ne1.true (c.to_word-coefficient.ensures ∙ e))
      | else-coefficient-ne1 w ↦
          ap (λ v. v.items ++ factors_text c.args.names.now c.args.t.now.at) w.out-is ∙
          monomial_alone (g.F.Field.ops c.args.f.now) c.args.names.now c.args.out.now.items c.args.t.now.at c.args.t.now.by some (sym c.to_word-coefficient.ensures ∙ w.if-coefficient-ne1.false)
    ] in
    on_ok c.push_monomial.result (λ e. e ∙ whole) c.push_monomial.ensures
