-- Presentations that tests read, and their polynomials.
use Rattle.std.specs.Prelude.{ℕ}
use Rattle.word_field.specs.Residues.{residues}
use Rattle.word_field.specs.declared.WordField.{WordField}
use Rattle.monomial_order.specs.declared.weight_order.WeightOrder.{WeightOrder}
use Rattle.polynomials.specs.Polynomial.{Polynomial, IsCanonical}
use Rattle.poly_core.specs.Presentation.{IsValid, weight_order_of}
use Rattle.poly_core.specs.declared.presentations.Presentation.{Presentation}
use Rattle.polynomial_text.specs.Degrees.{IsLow}

-- a presentation over a field of a prime number of elements and an order by weights
abbrev pub IsRing : Presentation WordField WeightOrder ℕ → Type 0
IsRing p = IsValid (λ f. residues f.modulus) weight_order_of p

-- a canonical polynomial over the field, in the order
abbrev pub IsIn : Presentation WordField WeightOrder ℕ → Polynomial ℕ → Type 0
IsIn p a = IsCanonical (residues p.field.modulus) (weight_order_of p.order) a

-- none of its monomials has a degree above 30000
abbrev pub IsLowIn : Presentation WordField WeightOrder ℕ → Polynomial ℕ → Type 0
IsLowIn p a = IsLow (weight_order_of p.order) a
