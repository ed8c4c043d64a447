-- What is written.
use Rattle.std.specs.Prelude.{◌≡◌, ℕ, List, ◌++◌, codes}
use Rattle.std.specs.Fmt.{decimal}
use Rattle.word_field.specs.Field.{FieldOps}
use Rattle.monomial_order.specs.declared.weight_order.WeightOrder.{WeightOrder}
use Rattle.poly_core.specs.declared.place_names.Names.{Names}
use Rattle.poly_core.specs.declared.presentations.Presentation.{Presentation}
use Rattle.presentation_text.specs.Meaning.{IsTextOf}
use Rattle.presentation_text.specs.PresentationText.{HasText}
use Rattle.witness.specs.declared.tracked.Tracked.{Tracked}

-- the element and its witness have values as coefficients, and names for their places
pub record IsPrintableElement {F E : Type 0} (K : FieldOps E) (names letters : Names) (t : Tracked F E) : Type 0 where
  pub value : HasText K names t.value
  pub witness : HasText K letters t.by

-- what is in front of so many elements
pub record IsHeading {F E : Type 0} (ops : F → FieldOps E) (p : Presentation F WeightOrder E) (degree count : ℕ) (text : List ℕ) : Type 0 where
  pub head : List ℕ
  pub presentation : IsTextOf ops p head
  pub is : text ≡ codes "sagbi-state 2\n" ++ (head ++
      (codes "degree " ++ (decimal degree ++ (codes "\nelements " ++ (decimal count ++ codes "\n")))))
