-- Pairs whose parts are canonical and of low degree.
use Rattle.std.proofs.Common.{◌≡◌, ℕ, ◌<◌, sym, subst}
use Rattle.word_field.specs.Field.{IsField}
use Rattle.word_field.specs.Residues.{residues}
use Rattle.word_field.specs.declared.WordField.{WordField}
use Rattle.monomial_order.specs.MonomialOrder.{MonomialOrder}
use Rattle.monomial_order.specs.declared.weight_order.WeightOrder.{WeightOrder}
use Rattle.monomial_order.specs.declared.word_order.WordOrder.{WordOrder}
use Rattle.polynomials.specs.Polynomial.{Polynomial, IsCanonical}
use Rattle.poly_core.specs.Presentation.{weight_order_of}
use Rattle.poly_core.specs.declared.presentations.Presentation.{Presentation}
use Rattle.polynomial_text.specs.Degrees.{IsLow}
use Rattle.witness.specs.Tracking.{by_order, letter_poly}
use Rattle.witness.specs.declared.tracked.Tracked.{Tracked}
use Rattle.witness.specs.laws.Letters.{by_small, canonical_letter}
use Rattle.worked_cases.specs.Witnesses.{IsLowPairIn}

module _ (p : Presentation WordField WeightOrder ℕ) (w : WordOrder) where
  pub low_letters : IsField (residues p.field.modulus) → (i : ℕ) → i < (let O : MonomialOrder = by_order w in O.places) → (h : Polynomial ℕ) → h ≡ letter_poly (residues p.field.modulus) i →
      IsCanonical (residues p.field.modulus) (by_order w) h × IsLow (by_order w) h
  low_letters F i l h e =
      subst (λ f. IsCanonical (residues p.field.modulus) (by_order w) f × IsLow (by_order w) f) (sym e)
      (canonical_letter (residues p.field.modulus) F (by_order w) (by_small w) i l, (by_small w i l, tt))

  pub low_pair : (t : Tracked WordField ℕ) → IsCanonical (residues p.field.modulus) (weight_order_of p.order) t.value × IsLow (weight_order_of p.order) t.value →
      IsCanonical (residues p.field.modulus) (by_order w) t.by × IsLow (by_order w) t.by → IsLowPairIn p w t
  low_pair t v b = record { pair = record { value = v.0; by = b.0 }; low = v.1; low_by = b.1 }
