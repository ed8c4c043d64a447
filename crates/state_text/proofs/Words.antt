-- The texts of words.
use Rattle.std.proofs.Common.{◌≡◌, ◌≢◌, ℕ, ◌≤◌, ◌^◌, Bool, true, false, cond, eqb, List, [], ◌∷◌, refl, sym, ap, subst, ◌∙◌, arith}
use Rattle.std.proofs.lemmas.Bool.{eq-eqb}
use Rattle.word_field.specs.Field.{FieldOps, IsField}
use Rattle.monomial_order.specs.Monomial.{Exponents}
use Rattle.monomial_order.specs.MonomialOrder.{MonomialOrder}
use Rattle.poly_core.specs.declared.place_names.Names.{Names}
use Rattle.poly_core.specs.Text.{monomial_text, poly_text}
use Rattle.polynomials.specs.Polynomial.{Polynomial, lead_monomial, term_of}
use Rattle.polynomial_text.specs.Canonical.{IsCanonicalText}
use Rattle.state_text.specs.Limits.{bound_max}
use Rattle.state_text.specs.LineReadings.{IsNamedWord}

module _ {E : Type 0} (K : FieldOps E) (F : IsField K) where
  -- the polynomial of one word, with the coefficient 1
  abbrev pub alone : Exponents → Polynomial E
  alone m = term_of m K.one ∷ []

  -- its text is that of the word
  pub alone_text : (names : Names) (m : Exponents) → m ≢ [] → poly_text K names (alone m) ≡ monomial_text names m
  alone_text names [] n = absurd (n refl)
  alone_text names (e ∷ m) n = rw (eq-eqb (K.word K.one) 1 F.word_one) refl

  pub alone_is : (W : MonomialOrder) (names : Names) (c : ℕ) → c ≤ bound_max → (m : Exponents) → IsNamedWord W names c m → (line : List ℕ) → line ≡ monomial_text names m →
      IsCanonicalText K W names line (alone m)
  alone_is W names c bound m h line text =
      let low = h.degree in
      record {
        canonical = record {
          decreasing = (record { term = record { monomial = h.monomial; value = F.one_value }; nonzero = F.one_not_zero; above = tt }, tt);
          small = (omega (arith, low), tt);
        };
        named = (h.named, tt);
        small = (omega (arith, low), tt);
        text = text ∙ sym (alone_text names m h.not_one);
      }

  pub alone_same : (m n : Exponents) → alone m ≡ alone n → m ≡ n
  alone_same m n e = ap lead_monomial e
