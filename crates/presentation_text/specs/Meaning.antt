-- Which presentation a text presents, which polynomials it has, and what fault it has.
use Rattle.std.specs.Prelude.{◌≡◌, ℕ, List, [], ◌∷◌, Result, Ok, Err}
use Rattle.word_field.specs.Field.{FieldOps}
use Rattle.word_field.specs.Residues.{residues}
use Rattle.word_field.specs.declared.WordField.{WordField}
use Rattle.ext_field.specs.PairField.{pairs}
use Rattle.ext_field.specs.declared.pair.Pair.{Pair}
use Rattle.ext_field.specs.declared.pair_field.PairField.{PairField}
use Rattle.monomial_order.specs.declared.weight_order.WeightOrder.{WeightOrder}
use Rattle.monomial_order.specs.MonomialOrder.{MonomialOrder}
use Rattle.polynomials.specs.Polynomial.{Polynomial, Same, IsCanonical}
use Rattle.poly_core.specs.Presentation.{IsValid, weight_order_of}
use Rattle.poly_core.specs.declared.place_names.Names.{Names}
use Rattle.poly_core.specs.declared.place_names.Names.TheVariants.{Listed}
use Rattle.poly_core.specs.declared.presentations.Presentation.{Presentation}
use Rattle.presentation_text.specs.declared.text_fault.TextFault.{TextFault}
use Rattle.presentation_text.specs.declared.text_fault.TextFault.TheVariants as faults
use Rattle.presentation_text.specs.Kinds.{Fault}
use Rattle.presentation_text.specs.Reading.{Reading, reading, queries}
use Rattle.presentation_text.specs.Reading.AnyReading.{word, pair}
use Rattle.presentation_text.specs.declared.any_presentation.AnyPresentation.{AnyPresentation}
use Rattle.presentation_text.specs.declared.any_presentation.AnyPresentation.TheVariants as presentations
use Rattle.presentation_text.specs.PresentationText.{presentation_text}

-- the longest text that is read
abbrev pub text_max : ℕ
text_max = 16777216

-- each polynomial is canonical in the order, and is the sum of its terms
abbrev pub AreSums : {E : Type 0} → FieldOps E → MonomialOrder → List (Polynomial E) → List (Polynomial E) → Type 0
AreSums K O [] [] = Unit {0}
AreSums K O [] (p ∷ ps) = ⊥
AreSums K O (sum ∷ sums) [] = ⊥
AreSums K O (sum ∷ sums) (p ∷ ps) = Same K p sum × IsCanonical K O p × AreSums K O sums ps

-- p is the presentation over a field with these operations of what was read
pub record IsReadIn {F E : Type 0} (ops : F → FieldOps E) (reads : Reading E → Type 0) (p : Presentation F WeightOrder E) : Type 0 where
  pub present : Reading E
  pub reading : reads present
  pub field : (ops p.field).size ≡ present.head.size
  pub names : p.names ≡ Listed present.head.names
  pub weights : p.order.weights.items ≡ present.head.weights
  pub rows : p.order.rows.items ≡ present.head.rows
  pub tie : p.order.tie ≡ present.head.tie
  pub ideal : AreSums (ops p.field) (weight_order_of p.order) present.ideal p.ideal.items
  pub generators : AreSums (ops p.field) (weight_order_of p.order) present.generators p.generators.items
  pub valid : IsValid ops weight_order_of p

-- the operations of the fields of both kinds
abbrev pub word_ops : WordField → FieldOps ℕ
word_ops f = residues f.modulus

abbrev pub pair_ops : PairField → FieldOps Pair
pair_ops f = pairs f.prime f.square.low f.square.high

-- p is the presentation that the text presents, over a field of numbers
abbrev pub IsRead : List ℕ → Presentation WordField WeightOrder ℕ → Type 0
IsRead text p = IsReadIn word_ops (λ r. reading text ≡ Ok (word r)) p

-- the same over a field of pairs
abbrev pub IsPairRead : List ℕ → Presentation PairField WeightOrder Pair → Type 0
IsPairRead text p = IsReadIn pair_ops (λ r. reading text ≡ Ok (pair r)) p

-- the same over a field of either kind
abbrev pub IsAnyRead : List ℕ → AnyPresentation → Type 0
IsAnyRead text (presentations.Word p) = IsRead text p
IsAnyRead text (presentations.Pair p) = IsPairRead text p

-- the fault that a text has, unless memory runs out
abbrev pub IsFaultOf : {A : Type 0} → Result A Fault → TextFault → Type 0
IsFaultOf read faults.Memory = Unit {0}
IsFaultOf read (faults.At kind line) = read ≡ Err (kind, line)

-- the polynomials are those of the lines of a query file
pub record AreQueries {E : Type 0} (K : FieldOps E) (O : MonomialOrder) (names : Names) (text : List ℕ) (ps : List (Polynomial E)) : Type 0 where
  pub sums : List (Polynomial E)
  pub read : queries K O names text ≡ Ok sums
  pub polys : AreSums K O sums ps

-- the text is the canonical text of the presentation, if its places have the names of a table
abbrev pub IsTextOf : {F E : Type 0} → (F → FieldOps E) → Presentation F WeightOrder E → List ℕ → Type 0
IsTextOf ops p text =
    (names : List (List ℕ)) × (p.names ≡ Listed names)
    × (text ≡ presentation_text (ops p.field) names p.order.weights.items p.order.rows.items p.order.tie p.ideal.items p.generators.items)
