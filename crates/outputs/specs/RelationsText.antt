-- The text of the relations.
use Rattle.std.specs.Prelude.{◌≡◌, ℕ, List}
use Rattle.polynomials.specs.Polynomial.{Polynomial}
use Rattle.polynomials.specs.Subalgebra.{Presented, IsReducedBasis}
use Rattle.completion.specs.LetterNames.{element_names}
use Rattle.completion.specs.RelationLines.{relations_text}
use Rattle.completion.specs.Relations.{AreRelations}
use Rattle.completion.specs.declared.relations.Relation.{Relation}

-- the text has the relations of the reduced basis to the bound
pub record IsRelationsText (F : Type 0) {E : Type 0} (P : Presented E) (bound : ℕ) (text : List ℕ) : Type 0 where
  pub basis : List (Polynomial E)
  pub reduced : IsReducedBasis P bound basis
  pub relations : List (Relation F E)
  pub exact : AreRelations P basis bound relations
  pub is : text ≡ relations_text P.field (element_names P.order.places) relations
