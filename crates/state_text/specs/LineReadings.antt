-- What single lines say. A line comes without its line feed.
use Rattle.std.specs.Prelude.{◌≡◌, ◌≢◌, ◌<◌, ◌≤◌, ℕ, List, [], ◌∷◌, ◌++◌, length, Option, Some, None, Contains}
use Rattle.std.specs.Fmt.{decimal}
use Rattle.word_field.specs.Field.{FieldOps}
use Rattle.monomial_order.specs.Monomial.{Exponents, IsMonomial}
use Rattle.monomial_order.specs.MonomialOrder.{MonomialOrder}
use Rattle.monomial_order.specs.declared.word_order.WordOrder.{WordOrder}
use Rattle.word_laws.specs.Words.{lead_degrees}
use Rattle.poly_core.specs.declared.place_names.Names.{Names}
use Rattle.poly_core.specs.Names.{IsNamed}
use Rattle.poly_core.specs.Text.{monomial_text}
use Rattle.polynomials.specs.Polynomial.{Polynomial, degree_of, IsHomogeneous}
use Rattle.polynomials.specs.Subalgebra.{Presented}
use Rattle.subalgebra_laws.specs.Words.{letters}
use Rattle.polynomial_text.specs.Canonical.{IsCanonicalText}
use Rattle.witness.specs.declared.tracked.Tracked.{Tracked}
use Rattle.completion.specs.LetterNames.{element_names}
use Rattle.completion.specs.RelationLines.{relation_line}
use Rattle.completion.specs.declared.relations.Relation.{Relation}
use Rattle.state_text.specs.declared.version.Version.{Version}
use Rattle.state_text.specs.Limits.{count_max}
use Rattle.state_text.specs.Parts.{IsDueElement, IsDueRelation}
use Rattle.state_text.specs.StateText.{element_line, letters_of}

-- the number of at most 18 digits behind the key, or None if the line is the key with no such number
abbrev pub IsCountReading : List ℕ → List ℕ → Option ℕ → Type 0
IsCountReading key line (Some n) = (n < count_max) × (line ≡ key ++ decimal n)
IsCountReading key line None = (n : ℕ) → n < count_max → line ≡ key ++ decimal n → ⊥

-- the line is the parts a and b with the mark between them, which has a space on each side and is the first of the line
pub record IsParted (mark : ℕ) (line a b : List ℕ) : Type 0 where
  pub whole : line ≡ a ++ 32 ∷ (mark ∷ (32 ∷ b))
  pub first : ¬ Contains (a ++ 32 ∷ []) mark

module _ {E : Type 0} (K : FieldOps E) (O : MonomialOrder) where
  -- homogeneous of a degree from 1 to c
  pub record IsDueValue (c : ℕ) (v : Polynomial E) : Type 0 where
    pub homogeneous : IsHomogeneous K O (degree_of O v) v
    pub at_least : 1 ≤ degree_of O v
    pub at_most : degree_of O v ≤ c

  -- the polynomial of which Q holds and whose canonical text the line is, or None if it is that of no such one
  abbrev pub IsReadingWith : Names → (Polynomial E → Type 0) → List ℕ → Option (Polynomial E) → Type 0
  IsReadingWith names Q line (Some p) = IsCanonicalText K O names line p × Q p
  IsReadingWith names Q line None = (p : Polynomial E) → IsCanonicalText K O names line p → ¬ Q p

module _ (W : MonomialOrder) (names : Names) where
  -- a monomial other than 1, of a degree of at most c, with names for its places
  pub record IsNamedWord (c : ℕ) (m : Exponents) : Type 0 where
    pub monomial : IsMonomial W.places m
    pub named : IsNamed names m
    pub not_one : m ≢ []
    pub degree : W.degree m ≤ c

  -- the one whose text the line is, or None if it is that of no such one
  abbrev pub IsWordReading : ℕ → List ℕ → Option Exponents → Type 0
  IsWordReading c line (Some m) = IsNamedWord c m × (line ≡ monomial_text names m)
  IsWordReading c line None = (m : Exponents) → IsNamedWord c m → line ≡ monomial_text names m → ⊥

-- the order of words over the variables and the leads of the elements S
pub record IsLetterOrder {E : Type 0} (P : Presented E) (S : List (Polynomial E)) (w : WordOrder) : Type 0 where
  pub x : w.x_degrees.items ≡ (letters P S).degrees
  pub s : w.s_degrees.items ≡ lead_degrees (letters P S)

module _ {F E : Type 0} (P : Presented E) where
  -- the line is that of the element t, which is due behind the elements S in a state of degree c
  pub record IsElementText (names : Names) (version : Version) (c : ℕ) (S : List (Polynomial E)) (line : List ℕ) (t : Tracked F E) : Type 0 where
    pub due : IsDueElement P version c S t
    pub text : line ++ 10 ∷ [] ≡ element_line P.field names (letters_of version (length P.generators)) t

  -- the element of the line, or None if the line is that of no element that is due
  abbrev pub IsElementReading : Names → Version → ℕ → List (Polynomial E) → List ℕ → Option (Tracked F E) → Type 0
  IsElementReading names version c S line (Some t) = IsElementText names version c S line t
  IsElementReading names version c S line None = (t : Tracked F E) → ¬ IsElementText names version c S line t

  -- the line is that of the relation r, which is due with the elements S in a state of degree c
  pub record IsRelationText (c : ℕ) (S : List (Polynomial E)) (line : List ℕ) (r : Relation F E) : Type 0 where
    pub due : IsDueRelation P S c r
    pub text : line ++ 10 ∷ [] ≡ relation_line P.field (element_names P.order.places) r

  -- the relation of the line, or None if the line is that of no relation that is due
  abbrev pub IsRelationReading : ℕ → List (Polynomial E) → List ℕ → Option (Relation F E) → Type 0
  IsRelationReading c S line (Some r) = IsRelationText c S line r
  IsRelationReading c S line None = (r : Relation F E) → ¬ IsRelationText c S line r
