-- Bases that tests make.
use Rattle.std.specs.Prelude.{ℕ, ◌≤◌}
use Rattle.word_field.specs.declared.WordField.{WordField}
use Rattle.monomial_order.specs.declared.weight_order.WeightOrder.{WeightOrder}
use Rattle.poly_core.specs.declared.presentations.Presentation.{Presentation}
use Rattle.quotient_gb.specs.Quotient.{closing_max}
use Rattle.subduction.specs.Basis.{BasisState, IsBasisOf}
use Rattle.worked_rows.specs.Rings.{IsRing}
use Rattle.worked_bases.specs.Rings.{of_ring}

-- a basis of what p presents, of a degree to which the quotient may be asked whether it is closed
pub record IsLowBasis (p : Presentation WordField WeightOrder ℕ) (b : BasisState WordField ℕ) : Type 0 where
  pub basis : IsBasisOf (of_ring p) b
  pub low : b.quotient.degree ≤ closing_max

-- a ring that tests read, with such a basis
pub record IsCase (p : Presentation WordField WeightOrder ℕ) (b : BasisState WordField ℕ) : Type 0 where
  pub ring : IsRing p
  pub basis : IsLowBasis p b
