-- A polynomial that a line is read as has a canonical text.
use Rattle.std.proofs.Common.{◌≡◌, ℕ, ◌≤◌, ◌^◌, Ok, Err, List, sym, ap, ◌∙◌}
use Rattle.word_field.specs.Field.{FieldOps, IsField}
use Rattle.monomial_order.specs.MonomialOrder.{MonomialOrder, IsMonomialOrder}
use Rattle.poly_core.specs.declared.place_names.Names.{Names}
use Rattle.polynomials.specs.Polynomial.{Polynomial, coefficient, AllAt}
use Rattle.poly_core.specs.Text.{poly_text, AreNamed}
use Rattle.polynomials.specs.laws.Decreasing.{IsDecreasing_unique}
use Rattle.polynomials.specs.laws.Degrees.{all_found, decreasing_all}
use Rattle.polynomial_text.specs.declared.line_fault.LineKind.{LineKind}
use Rattle.polynomial_text.specs.Degrees.{IsLow}
use Rattle.polynomial_text.specs.PolyLine.{terms_of, IsPolyOf}
use Rattle.polynomial_text.specs.Canonical.{AreDifferent, IsCanonicalText}
use Rattle.polynomial_text.specs.laws.CanonicalPoly.{canonical_terms}
use Rattle.polynomial_text.specs.laws.ReadTerms.{IsReadable, terms_readable, all_named, all_small}
use Rattle.polynomial_text.specs.laws.Steps.{same_ok}

module _ {E : Type 0} (K : FieldOps E) (F : IsField K) (O : MonomialOrder) (L : IsMonomialOrder O) (names : Names) (line : List ℕ) where
  readable : (p : Polynomial E) → IsPolyOf K O names line p → AllAt (IsReadable K O names) p
  readable p h =
      decreasing_all K F O L (IsReadable K O names) p h.canonical.decreasing
      (λ m ne. all_found K F O L (IsReadable K O names) h.terms (terms_readable K O names line h.terms h.read) m (λ z. ne (h.sum m ∙ z)))

  pub poly_named : (p : Polynomial E) → IsPolyOf K O names line p → AreNamed names p
  poly_named p h = all_named K O names p (readable p h)

  pub poly_low : (p : Polynomial E) → IsPolyOf K O names line p → IsLow O p
  poly_low p h = all_small K O names p (readable p h)

  -- the polynomial of a line that is its text
  pub canonical_found : (p : Polynomial E) → IsPolyOf K O names line p → line ≡ poly_text K names p → IsCanonicalText K O names line p
  canonical_found p h text = record { canonical = h.canonical; named = poly_named p h; small = poly_low p h; text = text }

  module _ (few : K.size ≤ 2 ^ 32) (D : AreDifferent O.places names) where
    -- a line that is the text of a polynomial has no fault
    pub canonical_no_fault : (kind : LineKind) → terms_of K O names line ≡ Err kind → (p : Polynomial E) → IsCanonicalText K O names line p → ⊥
    canonical_no_fault kind e p h =
        let read = canonical_terms K F few O L names D p h.canonical h.named h.small in
        let is : terms_of K O names line ≡ Ok read.0 = ap (terms_of K O names) h.text ∙ read.1 in
        let clash = sym e ∙ is in cc

    -- and no polynomial with another text
    pub canonical_only : (p : Polynomial E) → IsPolyOf K O names line p → (q : Polynomial E) → IsCanonicalText K O names line q → line ≡ poly_text K names p
    canonical_only p h q k =
        let read = canonical_terms K F few O L names D q k.canonical k.named k.small in
        let is : terms_of K O names line ≡ Ok read.0 = ap (terms_of K O names) k.text ∙ read.1 in
        let same : h.terms ≡ read.0 = same_ok h.terms read.0 (sym h.read ∙ is) in
        let one : p ≡ q = IsDecreasing_unique K F O L p q h.canonical.decreasing k.canonical.decreasing (λ m. h.sum m ∙ (ap (λ ts. coefficient K ts m) same ∙ sym (read.2 m))) in
        k.text ∙ ap (poly_text K names) (sym one)
