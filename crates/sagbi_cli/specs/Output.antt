-- What a command prints.
use Rattle.std.specs.Prelude.{◌≡◌, ℕ, ◌≤◌, List, length, Some}
use Rattle.std.specs.FinMap as map
use Rattle.word_field.specs.Field.{FieldOps}
use Rattle.monomial_order.specs.declared.weight_order.WeightOrder.{WeightOrder}
use Rattle.poly_core.specs.declared.presentations.Presentation.{Presentation}
use Rattle.poly_core.specs.Presentation.{presented, weight_order_of}
use Rattle.polynomials.specs.Polynomial.{Polynomial}
use Rattle.presentation_text.specs.Meaning.{text_max, word_ops, pair_ops, AreQueries, IsAnyRead}
use Rattle.presentation_text.specs.declared.any_presentation.AnyPresentation.{AnyPresentation}
use Rattle.presentation_text.specs.declared.any_presentation.AnyPresentation.TheVariants.{Word, Pair}
use Rattle.shelf_io.specs.Shelf.{Files}
use Rattle.completion.specs.Report.{IsReport}
use Rattle.outputs.specs.Answers.{IsAnswerText}
use Rattle.outputs.specs.RelationsText.{IsRelationsText}
use Rattle.sagbi_cli.specs.TrialText.{IsTrialText}
use Rattle.sagbi_cli.specs.declared.command.Command.{Command}
use Rattle.sagbi_cli.specs.declared.command.Command.TheVariants.{Complete, Ask, Relations, Trial}

module _ (files : Files) (name : List ℕ) where
  -- the file of this name is not too long, and presents p
  pub record IsGiven (p : AnyPresentation) : Type 0 where
    pub bytes : List ℕ
    pub found : map.get files name ≡ Some bytes
    pub short : length bytes ≤ text_max
    pub read : IsAnyRead bytes p

  -- the file of this name is not too long, and has these queries
  pub record AreGiven {F E : Type 0} (ops : F → FieldOps E) (p : Presentation F WeightOrder E) (queries : List (Polynomial E)) : Type 0 where
    pub bytes : List ℕ
    pub found : map.get files name ≡ Some bytes
    pub short : length bytes ≤ text_max
    pub read : AreQueries (ops p.field) (weight_order_of p.order) p.names bytes queries

-- the text answers the queries of the file of this name
pub record AreAnswered {F E : Type 0} (ops : F → FieldOps E) (p : Presentation F WeightOrder E) (files : Files) (name : List ℕ) (bound : ℕ) (text : List ℕ) : Type 0 where
  pub queries : List (Polynomial E)
  pub given : AreGiven files name ops p queries
  pub answers : IsAnswerText ops weight_order_of p bound queries text

module _ (files : Files) where
  -- what a command prints about a presentation
  abbrev pub IsOutputOn : {F E : Type 0} → (F → FieldOps E) → Presentation F WeightOrder E → Command → List ℕ → Type 0
  IsOutputOn ops p (Complete pres bound pick) text = IsReport (presented ops weight_order_of p) p.names bound text
  IsOutputOn ops p (Ask pres bound queries) text = AreAnswered ops p files queries.now bound text
  IsOutputOn {F} ops p (Relations pres bound) text = IsRelationsText F (presented ops weight_order_of p) bound text
  IsOutputOn ops p (Trial number) text = ⊥

  -- the same over a field of either kind
  abbrev pub IsAnyOutputOn : AnyPresentation → Command → List ℕ → Type 0
  IsAnyOutputOn (Word p) command text = IsOutputOn word_ops p command text
  IsAnyOutputOn (Pair p) command text = IsOutputOn pair_ops p command text

  -- what a command prints about the presentation of this name
  abbrev pub IsOutputAt : List ℕ → Command → List ℕ → Type 0
  IsOutputAt name command text = (p : AnyPresentation) × IsGiven files name p × IsAnyOutputOn p command text

  -- what a command prints
  abbrev pub IsOutput : Command → List ℕ → Type 0
  IsOutput (Complete pres bound pick) text = IsOutputAt pres.now (Complete pres bound pick) text
  IsOutput (Ask pres bound queries) text = IsOutputAt pres.now (Ask pres bound queries) text
  IsOutput (Relations pres bound) text = IsOutputAt pres.now (Relations pres bound) text
  IsOutput (Trial number) text = IsTrialText number text
