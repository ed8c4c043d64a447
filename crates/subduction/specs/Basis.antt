-- Elements with their witnesses, beside what is known of the ideal and of the words in their leads.
use Rattle.std.specs.Prelude.{◌≡◌, ◌≢◌, ℕ, ◌+◌, ◌≤◌, ◌<◌, ◌↔◌, List, [], ◌∷◌, ◌++◌, length, map, get_or, Contains, All, true}
use Rattle.word_field.specs.Field.{IsValue}
use Rattle.monomial_order.specs.Monomial.{Exponents, exponent}
use Rattle.monomial_order.specs.MonomialOrder.{IsIncreasing}
use Rattle.monomial_order.specs.declared.word_order.WordOrder.{WordOrder}
use Rattle.polynomials.specs.Polynomial.{Polynomial, coefficient, first_coefficient, AllAt, IsCanonical, Same, degree_of, lead_monomial}
use Rattle.polynomials.specs.Ideal.{Congruent}
use Rattle.polynomials.specs.Value.{value}
use Rattle.polynomials.specs.Subalgebra.{Presented, IsStandard, IsGenerated}
use Rattle.quotient_gb.specs.Quotient.{QuotientState, IsQuotientOf}
use Rattle.monomial_order.specs.Monomial.{IsMultiple}
use Rattle.word_laws.specs.Words.{IsReducible, IsWord}
use Rattle.toric_ideal.specs.Listing.{Listing, HasRuleDivisor, IsListing}
use Rattle.subalgebra_laws.specs.Words.{letters, linear_sum}
use Rattle.subalgebra_laws.specs.Bases.{IsMonicElement, AreReducedByEachOther}
use Rattle.witness.specs.declared.tracked.Tracked.{Tracked}
use Rattle.witness.specs.Tracking.{by_order, values_of, IsCanonicalPair, IsGraded, IsGradedPair, IsShort, IsShortMonomial, IsTrackedElement, IsWitnessOrder, Tracks}

-- the quotient, the words in the leads of the elements, the elements, and the order of their witnesses
pub record BasisState (F E : Type 0) : Type 0 where
  pub quotient : QuotientState E
  pub words : Listing
  pub elements : List (Tracked F E)
  pub by_order : WordOrder

-- a reducible word that no rule divides
pub record HasOtherWord (W : Listing) : Type 0 where
  pub word : Exponents
  pub is_word : IsWord W.letters word
  pub reducible : IsReducible (IsMultiple W.zeros) W.letters word
  pub no_rule : ¬ HasRuleDivisor W.rules word

-- quotient and words are known to be closed
pub record IsKnownClosed {F E : Type 0} (b : BasisState F E) : Type 0 where
  pub quotient : b.quotient.closed ≡ true
  pub words : b.words.closed ≡ true

-- a is the sum of members of S, each times a constant of the field
pub record IsLinearSum {E : Type 0} (P : Presented E) (S : List (Polynomial E)) (a : Polynomial E) : Type 0 where
  pub constants : List E
  pub values : All (IsValue P.field) constants
  pub sum : Same P.field a (linear_sum P constants S)

module _ {F E : Type 0} (P : Presented E) where
  -- monic, homogeneous and with standard monomials, with a witness over elements of smaller degree
  pub record IsBasisElement (b : BasisState F E) (t : Tracked F E) : Type 0 where
    pub tracked : IsTrackedElement P (by_order b.by_order) (values_of b.elements) t
    pub monic : IsMonicElement P t.value
    pub standard : (m : Exponents) → coefficient P.field t.value m ≢ P.field.zero → IsStandard P m

  -- the elements of a degree less than d, and then those of degree d
  pub record AreInParts (d : ℕ) (elements lower last : List (Tracked F E)) : Type 0 where
    pub whole : elements ≡ lower ++ last
    pub lower_less : All (λ t. degree_of P.order t.value < d) lower
    pub last_equal : All (λ t. degree_of P.order t.value ≡ d) last

  -- What each call on a basis asks for and gives. The words are those of the leads of the elements, and their zeros
  -- are the leads of the quotient to the degree of the words.
  pub record IsBasisOf (b : BasisState F E) : Type 0 where
    pub quotient : IsQuotientOf P b.quotient
    pub words : IsListing b.words
    pub letters : b.words.letters ≡ letters P (values_of b.elements)
    pub zeros : (z : Exponents) →
        Contains b.words.zeros z ↔ (Contains b.quotient.leads z × (P.order.degree z ≤ b.words.degree))
    pub degree : b.words.degree ≤ b.quotient.degree
    pub elements : All (IsBasisElement b) b.elements
    pub parts : (lower last : List (Tracked F E)) × AreInParts b.words.degree b.elements lower last
    pub by_order : IsWitnessOrder P (values_of b.elements) b.by_order

  -- t may be the next element: it is not zero, of the degree of the words, and has standard monomials that are no
  -- products of leads
  pub record IsNewElement (b : BasisState F E) (t : Tracked F E) : Type 0 where
    pub tracks : Tracks P (values_of b.elements) t
    pub canonical : IsCanonicalPair P.field P.order (by_order b.by_order) t
    pub nonzero : t.value ≢ []
    pub graded : IsGradedPair P.field P.order (by_order b.by_order) b.words.degree t
    pub reduced : (m : Exponents) → coefficient P.field t.value m ≢ P.field.zero →
        IsStandard P m × (¬ IsGenerated (map lead_monomial (values_of b.elements)) m)

  -- t is the last of the new elements, divided by its first coefficient
  pub record HasNext (t : Tracked F E) (old new : List (Tracked F E)) : Type 0 where
    pub next : Tracked F E
    pub elements : new ≡ old ++ next ∷ []
    pub multiple : (m : Exponents) → coefficient P.field t.value m ≡
        P.field.times (first_coefficient P.field t.value) (coefficient P.field next.value m)

  -- the witnesses of the elements of degree d are short
  abbrev pub AreShortAt : ℕ → List (Tracked F E) → Type 0
  AreShortAt d ts = (t : Tracked F E) → Contains ts t → degree_of P.order t.value ≡ d →
      IsShort P.field (length P.generators) t.by

  -- r has the value of h, and uses elements of smaller degree than the last alone
  pub record IsLowered (b : BasisState F E) (h r : Polynomial E) : Type 0 where
    pub canonical : IsCanonical P.field (by_order b.by_order) r
    pub value : let at = P.generators ++ values_of b.elements in
        Congruent P.field P.order.places P.ideal (value P.field h at) (value P.field r at)
    pub graded : IsGraded P.field (by_order b.by_order) b.words.degree r
    pub lower : (m : Exponents) → coefficient P.field r m ≢ P.field.zero →
        (i : ℕ) → exponent m (length P.generators + i) ≢ 0 →
        degree_of P.order (get_or (values_of b.elements) i []) < b.words.degree
    pub short : AllAt (IsShortMonomial (length P.generators)) h → AreShortAt b.words.degree b.elements →
        IsShort P.field (length P.generators) r

  -- The elements of the last degree d are reduced by each other and increase. The old ones are linear sums of them, and
  -- each monomial of a new one is one of an old one. Those of smaller degree are as before.
  pub record AreSettled (d : ℕ) (old new : List (Tracked F E)) : Type 0 where
    pub lower : List (Tracked F E)
    pub before : List (Tracked F E)
    pub after : List (Tracked F E)
    pub old_parts : AreInParts d old lower before
    pub new_parts : AreInParts d new lower after
    pub increasing : IsIncreasing P.order (map lead_monomial (values_of after))
    pub reduced : AreReducedByEachOther P (values_of after)
    pub sums : All (λ t. IsLinearSum P (values_of after) t.value) before
    pub monomials : (t : Tracked F E) (m : Exponents) → Contains after t →
        coefficient P.field t.value m ≢ P.field.zero →
        (u : Tracked F E) × Contains before u × (coefficient P.field u.value m ≢ P.field.zero)
