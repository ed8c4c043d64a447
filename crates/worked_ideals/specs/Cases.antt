-- Rings modulo ideals, with their quotients.
use Rattle.std.specs.Prelude.{◌≡◌, ℕ}
use Rattle.word_field.specs.Residues.{residues}
use Rattle.word_field.specs.declared.WordField.{WordField}
use Rattle.monomial_order.specs.declared.weight_order.WeightOrder.{WeightOrder}
use Rattle.poly_core.specs.Presentation.{presented, weight_order_of}
use Rattle.poly_core.specs.declared.presentations.Presentation.{Presentation}
use Rattle.quotient_gb.specs.Quotient.{QuotientState, IsQuotientOf}
use Rattle.worked_rows.specs.Rings.{IsRing}

-- a ring that tests read, and its quotient to the degree d
pub record IsCase (p : Presentation WordField WeightOrder ℕ) (d : ℕ) (q : QuotientState ℕ) : Type 0 where
  pub ring : IsRing p
  pub quotient : IsQuotientOf (presented (λ f. residues f.modulus) weight_order_of p) q
  pub degree : q.degree ≡ d
