-- Which texts are states of a presentation.
use Rattle.std.specs.Prelude.{◌≡◌, ℕ, List, All}
use Rattle.word_field.specs.Field.{FieldOps}
use Rattle.monomial_order.specs.declared.weight_order.WeightOrder.{WeightOrder}
use Rattle.polynomials.specs.Subalgebra.{Presented, IsReducedBasis}
use Rattle.poly_core.specs.declared.presentations.Presentation.{Presentation}
use Rattle.poly_core.specs.Presentation.{presented, weight_order_of}
use Rattle.witness.specs.Tracking.{values_of, Tracks}
use Rattle.completion.specs.Completion.{CompletionState}
use Rattle.completion.specs.Relations.{AreRelations}
use Rattle.state_text.specs.declared.version.Version.TheVariants.{Two}
use Rattle.state_text.specs.Parts.{whole, Parts}
use Rattle.state_text.specs.StateText.{IsStateText}

-- The elements are the reduced basis to the degree c, each with a witness of its value modulo the ideal, and the
-- relations are all of theirs to this degree.
pub record IsExact {F E : Type 0} (P : Presented E) (c : ℕ) (s : Parts F E) : Type 0 where
  pub degree : s.degree ≡ c
  pub reduced : IsReducedBasis P c (values_of s.elements)
  pub tracks : All (Tracks P (values_of s.elements)) s.elements
  pub relations : AreRelations P (values_of s.elements) c s.relations

-- the text is a state of the presentation for the degree c, with these parts
pub record IsStateOf {F E : Type 0} (ops : F → FieldOps E) (p : Presentation F WeightOrder E) (c : ℕ) (text : List ℕ) (s : Parts F E) : Type 0 where
  pub lines : IsStateText ops p text s
  pub exact : IsExact (presented ops weight_order_of p) c s

-- what the state of a completion says
abbrev pub state_of : {F O E : Type 0} → CompletionState F O E → Parts F E
state_of s = whole Two s.degree s.basis.elements s.relations
