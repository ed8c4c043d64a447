-- The text of a state, and how far a text is one.
use Rattle.std.specs.Prelude.{◌≡◌, ◌==◌, ℕ, suc, List, [], ◌∷◌, ◌++◌, length, codes, All, Contains, if◌then◌else◌}
use Rattle.std.specs.Fmt.{decimal}
use Rattle.std.specs.List.{flat_map}
use Rattle.word_field.specs.Field.{FieldOps}
use Rattle.monomial_order.specs.declared.weight_order.WeightOrder.{WeightOrder}
use Rattle.polynomials.specs.Subalgebra.{Presented}
use Rattle.poly_core.specs.declared.place_names.Names.{Names}
use Rattle.poly_core.specs.declared.presentations.Presentation.{Presentation}
use Rattle.poly_core.specs.Presentation.{presented, weight_order_of}
use Rattle.poly_core.specs.Text.{poly_text}
use Rattle.presentation_text.specs.Meaning.{IsTextOf}
use Rattle.witness.specs.declared.tracked.Tracked.{Tracked}
use Rattle.completion.specs.LetterNames.{element_names, generator_names, witness_names}
use Rattle.completion.specs.RelationLines.{relation_lines}
use Rattle.state_text.specs.declared.version.Version.{Version}
use Rattle.state_text.specs.declared.version.Version.TheVariants.{One, Two}
use Rattle.state_text.specs.Parts.{AreDue, Parts}

-- the digit of a version
abbrev pub version_text : Version → List ℕ
version_text One = codes "1"
version_text Two = codes "2"

-- the letters of witnesses: those of so many generators, and in the second version those of the elements
abbrev pub letters_of : Version → ℕ → Names
letters_of One count = generator_names
letters_of Two count = witness_names count

module _ {F E : Type 0} (K : FieldOps E) (names letters : Names) where
  -- an element and its witness
  abbrev pub element_line : Tracked F E → List ℕ
  element_line t = poly_text K names t.value ++ (codes " : " ++ (poly_text K letters t.by ++ codes "\n"))

  -- a line for each element
  abbrev pub element_lines : List (Tracked F E) → List ℕ
  element_lines [] = []
  element_lines (t ∷ ts) = element_line t ++ element_lines ts

module _ {F E : Type 0} (P : Presented E) (names : Names) where
  -- what is behind the elements, as far as there are relations
  abbrev pub relation_part : Parts F E → List ℕ
  relation_part s =
      codes "relations " ++ (decimal s.relation_count ++ (codes "\n" ++
      (relation_lines P.field (element_names P.order.places) s.relations ++
      (if length s.relations == s.relation_count then codes "end\n" else []))))

  -- the text, as far as there are elements and relations; `head` is the text of the presentation
  abbrev pub text_of : List ℕ → Parts F E → List ℕ
  text_of head s =
      codes "sagbi-state " ++ (version_text s.version ++ (codes "\n" ++ (head ++
      (codes "degree " ++ (decimal s.degree ++ (codes "\nelements " ++ (decimal s.count ++ (codes "\n" ++
      (element_lines P.field names (letters_of s.version (length P.generators)) s.elements ++
      (if length s.elements == s.count then relation_part s else []))))))))))

-- so many lines, each with its line feed
pub record AreLines (n : ℕ) (text : List ℕ) : Type 0 where
  pub lines : List (List ℕ)
  pub count : length lines ≡ n
  pub no_feed : All (λ line. ¬ Contains line 10) lines
  pub whole : text ≡ flat_map (λ line. line ++ 10 ∷ []) lines

module _ {F E : Type 0} (ops : F → FieldOps E) (p : Presentation F WeightOrder E) where
  -- the text is that of all of these parts
  pub record IsStateText (text : List ℕ) (s : Parts F E) : Type 0 where
    pub due : AreDue (presented ops weight_order_of p) s
    pub all : s.count ≡ length s.elements
    pub all_relations : s.relation_count ≡ length s.relations
    pub head : List ℕ
    pub presentation : IsTextOf ops p head
    pub is : text ≡ text_of (presented ops weight_order_of p) p.names head s

  -- the first n lines of the text are as due: those of a text of parts that are due
  pub record IsDueTo (n : ℕ) (text : List ℕ) : Type 0 where
    pub parts : Parts F E
    pub due : AreDue (presented ops weight_order_of p) parts
    pub head : List ℕ
    pub presentation : IsTextOf ops p head
    pub front : List ℕ
    pub lines : AreLines n front
    pub behind : List ℕ
    pub begins : text ≡ front ++ behind
    pub rest : List ℕ
    pub is : text_of (presented ops weight_order_of p) p.names head parts ≡ front ++ rest

  -- line n is the first that is not as due; the line behind the last one is, if it is missing
  pub record IsFirstFault (n : ℕ) (text : List ℕ) : Type 0 where
    pub before : ℕ
    pub number : n ≡ suc before
    pub due : IsDueTo before text
    pub not_due : ¬ IsDueTo n text
    pub no_state : (s : Parts F E) → ¬ IsStateText text s
