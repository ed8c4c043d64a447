-- Completions of presentations that tests read.
use Rattle.std.specs.Prelude.{◌≡◌, ℕ, true, false}
use Rattle.word_field.specs.Residues.{residues}
use Rattle.word_field.specs.declared.WordField.{WordField}
use Rattle.monomial_order.specs.declared.weight_order.WeightOrder.{WeightOrder}
use Rattle.poly_core.specs.Presentation.{weight_order_of}
use Rattle.completion.specs.Completion.{CompletionState, IsCompletion}

-- a completion over a field of a prime number of elements and an order by weights
abbrev pub IsOfRing : CompletionState WordField WeightOrder ℕ → Type 0
IsOfRing c = IsCompletion (λ f. residues f.modulus) weight_order_of c

-- at a closed degree
pub record IsAtRest (c : CompletionState WordField WeightOrder ℕ) : Type 0 where
  pub completion : IsOfRing c
  pub not_begun : c.begun ≡ false

-- in a degree that is begun
pub record IsBegun (c : CompletionState WordField WeightOrder ℕ) : Type 0 where
  pub completion : IsOfRing c
  pub begun : c.begun ≡ true
