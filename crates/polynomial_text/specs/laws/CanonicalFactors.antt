-- Numbers and powers of variables as they are written are factors of the grammar.
use Rattle.std.proofs.Common.{◌≡◌, ℕ, true, false, cond, eqb, List, [], ◌∷◌, ◌++◌, Some, refl, sym, append-nil, ◌⊎◌, inl, inr, ◌<◌}
use Rattle.std.specs.Fmt.{decimal}
use Rattle.std.proofs.lemmas.Bool.{eqb-true}
use Rattle.word_field.specs.Field.{FieldOps}
use Rattle.monomial_order.specs.declared.terms.Term.{Term}
use Rattle.monomial_order.specs.MonomialOrder.{MonomialOrder}
use Rattle.poly_core.specs.declared.place_names.Names.{Names}
use Rattle.poly_core.specs.Names.{name_at}
use Rattle.polynomials.specs.Polynomial.{term_of}
use Rattle.poly_core.specs.Text.{factor_text}
use Rattle.polynomial_text.specs.PolyLine.{power}
use Rattle.polynomial_text.specs.laws.CanonicalParts.{IsWritten, written_number}
use Rattle.polynomial_text.specs.Grammar.{IsRaised, IsConstant, IsPower}

module _ {E : Type 0} (K : FieldOps E) (O : MonomialOrder) (names : Names) where
  -- a factor without blanks
  abbrev pub IsPieceOf : List ℕ → Term E → Type 0
  IsPieceOf piece f = IsConstant K O names piece f ⊎ IsPower K O names piece f

  pub number_piece : (n : ℕ) → IsWritten n → IsPieceOf (decimal n) (term_of [] (K.of_word n))
  number_piece n h = inl (record { number = n; is = written_number n h; means = refl })

  pub power_piece : (i e : ℕ) (name : List ℕ) → i < O.places → name_at names i ≡ Some name → IsWritten e → IsPieceOf (factor_text name e) (term_of (power i e) K.one)
  power_piece i e name lt at small =
      elim (eqb e 1) as (λ t. eqb e 1 ≡ t → IsPieceOf (cond t name (name ++ (94 ∷ decimal e))) (term_of (power i e) K.one)) [
        | true ↦ λ t. inr (record { name = name; behind = []; place = i; exponent = e; is = sym (append-nil name); inside = lt; named = at; raised = inl (refl, eqb-true e 1 t); means = refl })
        | false ↦ λ t. inr (record { name = name; behind = 94 ∷ decimal e; place = i; exponent = e; is = refl; inside = lt; named = at; raised = inr raised; means = refl })
      ] refl
    where
      raised : IsRaised (94 ∷ decimal e) e
      raised = record { before = []; between = []; number = decimal e; is = refl; blank_before = refl; blank_between = refl; exponent = written_number e small }
