-- What is done at the end of a degree.
use Rattle.std.specs.Prelude.{◌≡◌, ℕ, List, [], ◌∷◌, ◌++◌, IfSome, unwrap_or}
use Rattle.word_laws.specs.Words.{IsSWord}
use Rattle.polynomials.specs.Polynomial.{Polynomial}
use Rattle.polynomials.specs.Subalgebra.{IsPresentation, Presented}
use Rattle.subalgebra_laws.specs.Bases.{AreMonicElements, HaveLeadsFrom}
use Rattle.subalgebra_laws.specs.Statements.{CongruentAreCombinations, ElementsAreCombinations, EndsCanBeExchanged, ForMonicElements, ForNewElements, ForNextElements, ForStandardElements, MinimalWordsStay, MultiplesAreCombinations, NextBasisIsReduced, ProductsSplit, SumsAreCombinations, SumsStay, ValuesStay}
use Rattle.subalgebra_laws.specs.Words.{letters, word_value, IsCombination}
use Rattle.word_values.specs.Values.{word_degree}
use Rattle.subduction.specs.Basis.{AreSettled, AreShortAt, BasisState, IsBasisOf}
use Rattle.completion.specs.declared.candidates.Found.{Found}
use Rattle.completion.specs.declared.relations.Relation.{Relation}
use Rattle.tete_lift.specs.Lifting.{IsRightSide}

-- the relations of words with these right sides where they have none
abbrev pub relations_of : {F E : Type 0} → List (Found F E) → List (Polynomial E) → List (Relation F E)
relations_of [] sides = []
relations_of (f ∷ fs) [] = []
relations_of (f ∷ fs) (e ∷ es) = record { word = f.word; right = unwrap_or f.right e } ∷ relations_of fs es

module _ {F E : Type 0} (P : Presented E) (S : List (Polynomial E)) where
  -- an s-word of degree d whose value is a combination, with its right side or without one
  pub record CanRelate (d : ℕ) (f : Found F E) : Type 0 where
    pub word : IsSWord (letters P S) f.word
    pub degree : word_degree P S f.word ≡ d
    pub combination : IsCombination P S (word_value P S f.word)
    pub right : IfSome f.right (IsRightSide P S f.word)

  -- a right side for each word that has none
  abbrev pub AreSides : List (Found F E) → List (Polynomial E) → Type 0
  AreSides [] [] = Unit {0}
  AreSides [] (e ∷ es) = ⊥
  AreSides (f ∷ fs) [] = ⊥
  AreSides (f ∷ fs) (e ∷ es) = IsRightSide P S f.word (unwrap_or f.right e) × AreSides fs es

-- c is the basis b with its last elements settled
pub record IsSettledBasis {F E : Type 0} (P : Presented E) (b c : BasisState F E) : Type 0 where
  pub basis : IsBasisOf P c
  pub settled : AreSettled P b.words.degree b.elements c.elements
  pub short : AreShortAt P b.words.degree b.elements → AreShortAt P b.words.degree c.elements
  pub degree : c.words.degree ≡ b.words.degree
  pub quotient : c.quotient ≡ b.quotient

-- the laws that the end of a degree stands on
pub record ClosingLaws (E : Type 0) : Type 0 where
  pub sums : ForMonicElements E SumsAreCombinations
  pub multiples : ForMonicElements E MultiplesAreCombinations
  pub congruent : ForMonicElements E CongruentAreCombinations
  pub elements : ForStandardElements E ElementsAreCombinations
  pub ends : ForNewElements E EndsCanBeExchanged
  pub values : (P : Presented E) (S T : List (Polynomial E)) → ValuesStay P S T
  pub stay : ForNewElements E SumsStay
  pub minimal : ForStandardElements E MinimalWordsStay
  pub split : (P : Presented E) (S T : List (Polynomial E)) (d : ℕ) → IsPresentation P → AreMonicElements P (S ++ T) →
      HaveLeadsFrom P d T → ProductsSplit P S T d
  pub next : ForNextElements E NextBasisIsReduced
