-- Steps of merging two decreasing lists from their ends.
use Rattle.std.specs.Prelude.{◌≡◌, ◌≢◌, ◌⊎◌, List, [], ◌∷◌, ◌++◌}
use Rattle.word_field.specs.Field.{FieldOps}
use Rattle.monomial_order.specs.declared.terms.Term.{Term}
use Rattle.polynomials.specs.Polynomial.{Polynomial, term_of}

-- the last item of one list went to the end of another
pub record MovesLast {A : Type 0} (from from' to to' : List A) : Type 0 where
  pub item : A
  pub taken : from ≡ from' ++ (item ∷ [])
  pub put : to' ≡ to ++ (item ∷ [])

-- the last terms of two lists are gone, and their sum, unless it is zero, went to the end of a third
pub record AddsLast {E : Type 0} (K : FieldOps E) (a a' b b' to to' : Polynomial E) : Type 0 where
  pub left : Term E
  pub right : Term E
  pub left_taken : a ≡ a' ++ (left ∷ [])
  pub right_taken : b ≡ b' ++ (right ∷ [])
  pub put : ((K.plus left.by right.by ≡ K.zero) × (to' ≡ to)) ⊎
      ((K.plus left.by right.by ≢ K.zero) × (to' ≡ to ++ (term_of left.at (K.plus left.by right.by) ∷ [])))
