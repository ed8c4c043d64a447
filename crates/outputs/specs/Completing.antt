-- A completion that is new, or at a bound.
use Rattle.std.specs.Prelude.{◌≡◌, ℕ, false}
use Rattle.word_field.specs.Field.{FieldOps}
use Rattle.monomial_order.specs.MonomialOrder.{MonomialOrder}
use Rattle.poly_core.specs.declared.presentations.Presentation.{Presentation}
use Rattle.completion.specs.Completion.{CompletionState, IsCompletion}

-- a completion that has not been run
pub record IsNew {F O E : Type 0} (ops : F → FieldOps E) (order : O → MonomialOrder) (c : CompletionState F O E) : Type 0 where
  pub completion : IsCompletion ops order c
  pub not_begun : c.begun ≡ false
  pub degree : c.degree ≡ 0

-- p is completed to the bound
pub record IsCompletedTo {F O E : Type 0} (ops : F → FieldOps E) (order : O → MonomialOrder) (p : Presentation F O E) (bound : ℕ) (c : CompletionState F O E) : Type 0 where
  pub completion : IsCompletion ops order c
  pub not_begun : c.begun ≡ false
  pub degree : c.degree ≡ bound
  pub presentation : c.presentation ≡ p
