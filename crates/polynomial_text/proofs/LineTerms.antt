-- The term that the loop over the factors begins with.
use Rattle.std.proofs.Common.{◌≡◌, ℕ, Bool, true, false, cond, List, [], ap, ◌∙◌, arith}
use Rattle.word_field.specs.Field.{FieldOps, IsField, IsValue}
use Rattle.monomial_order.specs.declared.terms.Term.{Term}
use Rattle.monomial_order.specs.MonomialOrder.{MonomialOrder, IsMonomialOrder}
use Rattle.monomial_order.specs.laws.Comparing.{degree_one}
use Rattle.polynomials.specs.Polynomial.{term_of}
use Rattle.poly_core.specs.declared.place_names.Names.{Names}
use Rattle.polynomial_text.specs.Results.{along}
use Rattle.polynomial_text.specs.PolyLine.{with_factor, term_at}
use Rattle.polynomial_text.specs.LineReading.{IsSmallTerm, factor_parts}

module _ {E : Type 0} (K : FieldOps E) (F : IsField K) (O : MonomialOrder) (L : IsMonomialOrder O) where
  pub sign_small : (minus : Bool) (t : Term E) → t.at ≡ [] → t.by ≡ cond minus (K.negate K.one) K.one → IsSmallTerm K O t
  sign_small minus t at by = record {
    at = let one : O.degree [] ≡ 0 = degree_one O L in record { monomial = record { trimmed = rw at tt; within = rw at (omega arith) }; small = rw at (omega arith) };
    value = rw by (elim minus as (λ b. IsValue K (cond b (K.negate K.one) K.one)) [ true ↦ F.negate_value K.one | false ↦ F.one_value ]);
  }

  pub sign_begins : (names : Names) (minus : Bool) (text : List ℕ) (t : Term E) → t.at ≡ [] → t.by ≡ cond minus (K.negate K.one) K.one → along (with_factor K O names) t (factor_parts text) ≡ term_at K O names (minus, text)
  unfolding term_at
  sign_begins names minus text t at by =
      let is : t ≡ term_of [] (cond minus (K.negate K.one) K.one) = ap (λ (m : List ℕ). term_of m t.by) at ∙ ap (term_of []) by in
      ap (λ (u : Term E). along (with_factor K O names) u (factor_parts text)) is
