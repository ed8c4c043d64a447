-- The lines of the relations.
use Rattle.std.specs.Prelude.{ℕ, List, [], ◌∷◌, ◌++◌, length, codes}
use Rattle.std.specs.Fmt.{decimal}
use Rattle.word_field.specs.Field.{FieldOps}
use Rattle.poly_core.specs.declared.place_names.Names.{Names}
use Rattle.poly_core.specs.Names.{IsNamed}
use Rattle.poly_core.specs.Text.{monomial_text, poly_text, AreNamed, AreValues}
use Rattle.completion.specs.declared.relations.Relation.{Relation}

module _ {F E : Type 0} (K : FieldOps E) (names : Names) where
  abbrev pub relation_line : Relation F E → List ℕ
  relation_line r = monomial_text names r.word ++ (codes " = " ++ (poly_text K names r.right ++ codes "\n"))

  -- each coefficient is a value, and each place has a name
  pub record IsPrintable (r : Relation F E) : Type 0 where
    pub word : IsNamed names r.word
    pub values : AreValues K r.right
    pub named : AreNamed names r.right

  -- a line for each relation
  abbrev pub relation_lines : List (Relation F E) → List ℕ
  relation_lines [] = []
  relation_lines (r ∷ relations) = relation_line r ++ relation_lines relations

  -- their number, and the lines
  abbrev pub relations_text : List (Relation F E) → List ℕ
  relations_text relations =
      codes "relations " ++ (decimal (length relations) ++ (codes "\n" ++ relation_lines relations))
