-- A completion between its calls: at a closed degree, or in the degree after it.
use Rattle.std.specs.Prelude.{◌≡◌, ◌≢◌, ◌⊎◌, ℕ, suc, ◌<◌, ◌≤◌, List, [], ◌++◌, length, map, get_or, All, Contains, Bool, true, false, IfSome}
use Rattle.word_field.specs.Field.{FieldOps}
use Rattle.monomial_order.specs.Monomial.{Exponents}
use Rattle.monomial_order.specs.MonomialOrder.{MonomialOrder}
use Rattle.degree_queue.specs.DegreeQueue.{list_of}
use Rattle.poly_core.specs.declared.presentations.Presentation.{Presentation}
use Rattle.poly_core.specs.Presentation.{presented, IsValid}
use Rattle.polynomials.specs.Polynomial.{Polynomial, coefficient, degree_of, lead_monomial}
use Rattle.polynomials.specs.Subalgebra.{Presented, IsGenerated, IsReducedBasis}
use Rattle.quotient_gb.specs.Quotient.{closing_max}
use Rattle.subalgebra_laws.specs.Words.{word_value, IsCombination}
use Rattle.subalgebra_laws.specs.Statements.{CombinationsStay}
use Rattle.witness.specs.declared.tracked.Tracked.{Tracked}
use Rattle.witness.specs.Tracking.{values_of, IsShort}
use Rattle.word_values.specs.Values.{Table, AreValues, AreWordsTo}
use Rattle.subduction.specs.Basis.{BasisState, AreInParts, IsBasisOf}
use Rattle.completion.specs.declared.candidates.Candidate.{Candidate}
use Rattle.completion.specs.declared.candidates.Candidate.TheVariants.{Generator, Word}
use Rattle.completion.specs.declared.candidates.Found.{Found}
use Rattle.completion.specs.declared.relations.Relation.{Relation}
use Rattle.completion.specs.Candidates.{AreWordsAt, IsCandidate, IsGeneratorAt}
use Rattle.completion.specs.Relations.{AreRelations}
use Rattle.tete_lift.specs.Lifting.{IsRightSide}

-- The presentation, the basis with the values of words that are kept, the relations, the closed degree, whether the next
-- degree is begun, its candidates, and its words. Elements to the degree `read` came from outside. Kept words have a
-- degree of at most `kept`.
pub record CompletionState (F O E : Type 0) : Type 0 where
  pub presentation : Presentation F O E
  pub basis : BasisState F E
  pub values : Table E
  pub kept : ℕ
  pub relations : List (Relation F E)
  pub degree : ℕ
  pub read : ℕ
  pub begun : Bool
  pub queue : List (List Candidate)
  pub found : List (Found F E)

-- the candidates that wait
abbrev pub pending_of : {F O E : Type 0} → CompletionState F O E → List Candidate
pending_of s = list_of s.queue (suc s.degree)

-- the values of the elements
abbrev pub elements_of : {F O E : Type 0} → CompletionState F O E → List (Polynomial E)
elements_of s = values_of s.basis.elements

module _ {F E : Type 0} (P : Presented E) where
  -- At most one element was added to the old ones, in degree d, and none of its monomials is a product of old leads.
  -- Combinations to the degree d stay.
  pub record IsGrown (d : ℕ) (old new : List (Tracked F E)) : Type 0 where
    pub more : List (Tracked F E)
    pub whole : new ≡ old ++ more
    pub degrees : All (λ t. degree_of P.order t.value ≡ d) more
    pub fresh : (t : Tracked F E) → Contains more t → (m : Exponents) → coefficient P.field t.value m ≢ P.field.zero →
        ¬ IsGenerated (map lead_monomial (values_of old)) m
    pub stay : CombinationsStay P (values_of old) (values_of more) d

  -- the elements of a degree above c have short witnesses
  abbrev pub AreShortAbove : ℕ → List (Tracked F E) → Type 0
  AreShortAbove c ts = (t : Tracked F E) → Contains ts t → c < degree_of P.order t.value →
      IsShort P.field (length P.generators) t.by

  module _ {O : Type 0} (s : CompletionState F O E) where
    -- the elements are the reduced basis to the closed degree, with its relations
    pub record IsAtDegree : Type 0 where
      pub reduced : IsReducedBasis P s.degree (elements_of s)
      pub relations : AreRelations P (elements_of s) s.degree s.relations
      pub words : (s.degree ≤ s.basis.words.degree) × (s.basis.words.degree ≤ suc s.degree)
      pub quotient : s.basis.quotient.degree ≤ suc s.degree
      pub none_pending : pending_of s ≡ []

    -- The reduced basis to the closed degree and elements of the next one, in which each candidate waits or is a
    -- combination.
    pub record IsInDegree : Type 0 where
      pub lower : List (Tracked F E)
      pub last : List (Tracked F E)
      pub parts : AreInParts P (suc s.degree) s.basis.elements lower last
      pub reduced : IsReducedBasis P s.degree (values_of lower)
      pub fresh : (t : Tracked F E) → Contains last t → (m : Exponents) →
          coefficient P.field t.value m ≢ P.field.zero → ¬ IsGenerated (map lead_monomial (values_of lower)) m
      pub relations : AreRelations P (values_of lower) s.degree s.relations
      pub degree : s.basis.words.degree ≡ suc s.degree
      pub quotient : s.basis.quotient.degree ≤ suc s.degree
      pub words : AreWordsAt P (values_of lower) (suc s.degree) (map (λ f. f.word) s.found)
      pub rights : All (λ f. IfSome f.right (IsRightSide P (values_of lower) f.word)) s.found
      pub pending : All (IsCandidate P (suc s.degree) (length s.found)) (pending_of s)
      pub generators : (i : ℕ) → IsGeneratorAt P (suc s.degree) i →
          Contains (pending_of s) (Generator i) ⊎ IsCombination P (elements_of s) (get_or P.generators i [])
      pub word_values : (j : ℕ) → j < length s.found → Contains (pending_of s) (Word j) ⊎
          IsCombination P (elements_of s) (word_value P (values_of lower) (get_or (map (λ f. f.word) s.found) j []))

    -- what holds between calls
    pub record IsStanding : Type 0 where
      pub basis : IsBasisOf P s.basis
      pub small : s.basis.quotient.degree ≤ closing_max
      pub values : AreValues P (elements_of s) s.values
      pub kept : AreWordsTo P (elements_of s) s.kept s.values
      pub short : AreShortAbove s.read s.basis.elements
      pub none_later : (d : ℕ) → suc s.degree < d → list_of s.queue d ≡ []
      pub at_degree : s.begun ≡ false → IsAtDegree
      pub in_degree : s.begun ≡ true → IsInDegree

-- what each call on a completion asks for and gives
pub record IsCompletion {F O E : Type 0} (ops : F → FieldOps E) (order : O → MonomialOrder) (s : CompletionState F O E) : Type 0 where
  pub presentation : IsValid ops order s.presentation
  pub standing : IsStanding (presented ops order s.presentation) s

-- the same presentation, closed degree, elements, relations and candidates
pub record IsUnchanged {F O E : Type 0} (s t : CompletionState F O E) : Type 0 where
  pub presentation : t.presentation ≡ s.presentation
  pub degree : t.degree ≡ s.degree
  pub read : t.read ≡ s.read
  pub begun : t.begun ≡ s.begun
  pub elements : t.basis.elements ≡ s.basis.elements
  pub relations : t.relations ≡ s.relations
  pub pending : pending_of t ≡ pending_of s

-- the elements to the closed degree and the relations are as before, and more may come behind them
pub record AreKept {F O E : Type 0} (P : Presented E) (s t : CompletionState F O E) : Type 0 where
  pub presentation : t.presentation ≡ s.presentation
  pub read : t.read ≡ s.read
  pub elements : (lower last : List (Tracked F E)) → AreInParts P (suc s.degree) s.basis.elements lower last →
      (more : List (Tracked F E)) × (t.basis.elements ≡ lower ++ more)
  pub relations : (more : List (Relation F E)) × (t.relations ≡ s.relations ++ more)
