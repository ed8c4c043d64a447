-- The relations of a list of elements to a degree.
use Rattle.std.specs.Prelude.{◌↔◌, ℕ, ◌≤◌, List, map, All, Contains}
use Rattle.monomial_order.specs.Monomial.{Exponents}
use Rattle.monomial_order.specs.MonomialOrder.{IsIncreasing}
use Rattle.word_laws.specs.Words.{word_order_of}
use Rattle.polynomials.specs.Polynomial.{Polynomial}
use Rattle.polynomials.specs.Subalgebra.{Presented}
use Rattle.subalgebra_laws.specs.Words.{letters, IsMinimalWord}
use Rattle.word_values.specs.Values.{word_degree}
use Rattle.tete_lift.specs.Lifting.{IsRightSide}
use Rattle.completion.specs.declared.relations.Relation.{Relation}

module _ {F E : Type 0} (P : Presented E) (S : List (Polynomial E)) where
  -- the minimal reducible s-words of degree at most c, increasing, each with its right side
  pub record AreRelations (c : ℕ) (relations : List (Relation F E)) : Type 0 where
    pub increasing : IsIncreasing (word_order_of (letters P S)) (map (λ r. r.word) relations)
    pub exactly : (u : Exponents) →
        Contains (map (λ r. r.word) relations) u ↔ (IsMinimalWord P S u × (word_degree P S u ≤ c))
    pub rights : All (λ r. IsRightSide P S r.word r.right) relations
