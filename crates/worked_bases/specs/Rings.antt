-- What a ring of a test presents.
use Rattle.std.specs.Prelude.{ℕ}
use Rattle.word_field.specs.Residues.{residues}
use Rattle.word_field.specs.declared.WordField.{WordField}
use Rattle.monomial_order.specs.declared.weight_order.WeightOrder.{WeightOrder}
use Rattle.polynomials.specs.Subalgebra.{Presented}
use Rattle.poly_core.specs.Presentation.{presented, weight_order_of}
use Rattle.poly_core.specs.declared.presentations.Presentation.{Presentation}

abbrev pub of_ring : Presentation WordField WeightOrder ℕ → Presented ℕ
of_ring p = presented (λ f. residues f.modulus) weight_order_of p
