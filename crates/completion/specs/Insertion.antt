-- What is put into a basis: one element, or none.
use Rattle.std.specs.Prelude.{◌≡◌, ◌≢◌, ℕ, ◌≤◌, [], length}
use Rattle.polynomials.specs.Polynomial.{Polynomial, minus}
use Rattle.polynomials.specs.Subalgebra.{Presented}
use Rattle.subalgebra_laws.specs.Words.{IsCombination}
use Rattle.witness.specs.declared.tracked.Tracked.{Tracked}
use Rattle.witness.specs.Tracking.{values_of, IsShort}
use Rattle.word_values.specs.Values.{AreValues, AreWordsTo, Table}
use Rattle.subduction.specs.Basis.{AreShortAt, BasisState, IsBasisOf, IsNewElement}
use Rattle.completion.specs.Completion.{IsGrown}

module _ {F E : Type 0} (P : Presented E) (b : BasisState F E) where
  -- The polynomial a is a combination and the value of r, which may be the next element unless it is zero.
  pub record IsRestOf (a : Polynomial E) (r : Tracked F E) : Type 0 where
    pub difference : IsCombination P (values_of b.elements) (minus P.field a r.value)
    pub zero : r.value ≡ [] → IsCombination P (values_of b.elements) a
    pub new : r.value ≢ [] → IsNewElement P b r
    pub short : IsShort P.field (length P.generators) r.by

  -- At most one element was put into the basis, to the degree of its words, and c is what came of it. The words that
  -- are kept after have their values, and degrees of at most this one or that of a word that was kept before.
  pub record IsInserted (before : Table E) (c : BasisState F E) (after : Table E) : Type 0 where
    pub basis : IsBasisOf P c
    pub values : AreValues P (values_of c.elements) after
    pub kept : (d : ℕ) → b.words.degree ≤ d → AreWordsTo P (values_of b.elements) d before →
        AreWordsTo P (values_of c.elements) d after
    pub grown : IsGrown P b.words.degree b.elements c.elements
    pub short : AreShortAt P b.words.degree b.elements → AreShortAt P b.words.degree c.elements
    pub degree : c.words.degree ≡ b.words.degree
    pub quotient : c.quotient ≡ b.quotient
