-- The canonical text of a presentation.
use Rattle.std.specs.Prelude.{ℕ, List, [], ◌∷◌, ◌++◌, map, length, codes}
use Rattle.std.specs.List.{flat_map}
use Rattle.std.specs.Fmt.{decimal}
use Rattle.word_field.specs.Field.{FieldOps}
use Rattle.monomial_order.specs.declared.tie_break.Tie.{Tie}
use Rattle.monomial_order.specs.declared.tie_break.Tie.TheVariants.{Lex, RevLex}
use Rattle.poly_core.specs.declared.place_names.Names.{Names}
use Rattle.poly_core.specs.declared.place_names.Names.TheVariants.{Listed}
use Rattle.poly_core.specs.Text.{poly_text, AreValues, AreNamed}
use Rattle.polynomials.specs.Polynomial.{Polynomial}

-- tokens with a space between them, and the end of the line
abbrev pub line : List ℕ → List (List ℕ) → List ℕ
line first tokens = first ++ (flat_map (λ w. 32 ∷ w) tokens ++ (10 ∷ []))

-- each row is its numbers, with a `;` behind them
abbrev pub row_tokens : List ℕ → List (List ℕ)
row_tokens row = map decimal row ++ (codes ";" ∷ [])

abbrev pub tie_token : Tie → List ℕ
tie_token Lex = codes "lex"
tie_token RevLex = codes "revlex"

module _ {E : Type 0} (K : FieldOps E) (names : Names) where
  -- values with names, which have a text
  abbrev pub HasText : Polynomial E → Type 0
  HasText p = AreValues K p × AreNamed names p

  -- the polynomials, a line each
  abbrev pub lines_of : List (Polynomial E) → List ℕ
  lines_of ps = flat_map (λ p. line (poly_text K names p) []) ps

  -- the key and their number, and the polynomials
  abbrev pub list_text : List ℕ → List (Polynomial E) → List ℕ
  list_text key ps = line key (decimal (length ps) ∷ []) ++ lines_of ps

module _ {E : Type 0} (K : FieldOps E) (names : List (List ℕ)) where
  abbrev pub poly_lines : List (Polynomial E) → List ℕ
  poly_lines ps = lines_of K (Listed names) ps

  -- the text of the presentation with this field, these names, weights, rows, tie, ideal and generators
  abbrev pub presentation_text : List ℕ → List (List ℕ) → Tie → List (Polynomial E) → List (Polynomial E) → List ℕ
  presentation_text weights rows tie ideal generators =
      line (codes "subalgebra") (codes "1" ∷ []) ++ (line (codes "field") (decimal K.size ∷ []) ++
      (line (codes "vars") names ++ (line (codes "weights") (map decimal weights) ++
      (line (codes "order") (flat_map row_tokens rows ++ (tie_token tie ∷ [])) ++
      (line (codes "ideal") (decimal (length ideal) ∷ []) ++ (poly_lines ideal ++
      (line (codes "generators") (decimal (length generators) ∷ []) ++ (poly_lines generators ++
      line (codes "end") []))))))))
