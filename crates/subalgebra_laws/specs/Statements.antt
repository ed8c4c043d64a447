-- The laws. The contracts of `laws` say of which presentations and lists of elements each of them holds.
use Rattle.std.specs.Prelude.{◌≡◌, ◌≢◌, ℕ, suc, ◌<◌, ◌≤◌, ◌⊎◌, ◌↔◌, List, [], ◌++◌, length, get_or, map, Contains}
use Rattle.std.specs.declared.cmp.Ordering.TheVariants.{Less}
use Rattle.word_field.specs.Field.{IsValue}
use Rattle.monomial_order.specs.MonomialOrder.{IsIncreasing}
use Rattle.word_laws.specs.Words.{word_order_of, image_of, IsWord, IsSWord, IsLeast, IsReducible, IsMinimalReducible}
use Rattle.monomial_order.specs.Monomial.{Exponents, IsMultiple}
use Rattle.polynomials.specs.Polynomial.{Polynomial, coefficient, constant, times, Same, IsPoly, IsLead, IsHomogeneous, lead_monomial}
use Rattle.polynomials.specs.Ideal.{Congruent}
use Rattle.polynomials.specs.Value.{value}
use Rattle.polynomials.specs.Subalgebra.{Presented, IsPresentation, InSubalgebra, LeadsIdeal, LeadsSubalgebra, IsStandard, IsNormalForm, IsGenerated, IsReducedBasis, HasDegreesTo, IsDecidedTo, AreZerosTo}
use Rattle.subalgebra_laws.specs.Words.{letters, word_value, combination_value, IsReducibleWord, IsMinimalWord, IsIrreducibleSum, IsTopWord, IsCombination, HasSumAndRest, linear_sum, IsSubductionRemainder}
use Rattle.subalgebra_laws.specs.Bases.{AreMonicElements, AreMembers, AreReducedByEachOther, AreCongruent, HaveLeadsFrom, HasCombinationsTo, HasCombinationsAt, IsIdealClosedAt, IsClosedAt, AreAfter, AreStandardAfter, AreNextTo, IsCheckedElement, IsCheckedBasis}

-- What a law holds of. E is the type of the coefficients.

abbrev pub ForPresentations : (E : Type 0) → (Presented E → Type 0) → Type 0
ForPresentations E Law = (P : Presented E) → IsPresentation P → Law P

abbrev pub ForMonicElements : (E : Type 0) → (Presented E → List (Polynomial E) → Type 0) → Type 0
ForMonicElements E Law = (P : Presented E) (S : List (Polynomial E)) →
    IsPresentation P → AreMonicElements P S → Law P S

-- monic elements that are members of the subalgebra
abbrev pub ForMonicMembers : (E : Type 0) → (Presented E → List (Polynomial E) → Type 0) → Type 0
ForMonicMembers E Law = (P : Presented E) (S : List (Polynomial E)) →
    IsPresentation P → AreMonicElements P S → AreMembers P S → Law P S

-- the ideal is decided to the degree c
abbrev pub ForDecidedIdeals : (E : Type 0) → (Presented E → List (Polynomial E) → ℕ → Type 0) → Type 0
ForDecidedIdeals E Law = (P : Presented E) (S : List (Polynomial E)) (c : ℕ) →
    IsPresentation P → IsDecidedTo P c → Law P S c

-- S is a reduced basis to the degree D, to which the ideal is decided, and nothing new comes after it
abbrev pub ForClosedBases : (E : Type 0) → (Presented E → List (Polynomial E) → ℕ → ℕ → Type 0) → Type 0
ForClosedBases E Law = (P : Presented E) (S : List (Polynomial E)) (D c : ℕ) →
    IsPresentation P → IsDecidedTo P D → IsReducedBasis P D S → IsClosedAt P D S → Law P S D c

-- elements T that come after S in a degree of at least d
abbrev pub ForNewElements :
    (E : Type 0) → (Presented E → List (Polynomial E) → List (Polynomial E) → ℕ → Type 0) → Type 0
ForNewElements E Law = (P : Presented E) (S T : List (Polynomial E)) (d : ℕ) →
    IsPresentation P → AreAfter P d S T → Law P S T d

-- and have standard leads that differ
abbrev pub ForStandardElements :
    (E : Type 0) → (Presented E → List (Polynomial E) → List (Polynomial E) → ℕ → Type 0) → Type 0
ForStandardElements E Law = (P : Presented E) (S T : List (Polynomial E)) (d : ℕ) →
    IsPresentation P → AreStandardAfter P d S T → Law P S T d

-- or that are increasing
abbrev pub ForNextElements :
    (E : Type 0) → (Presented E → List (Polynomial E) → List (Polynomial E) → ℕ → Type 0) → Type 0
ForNextElements E Law = (P : Presented E) (S T : List (Polynomial E)) (d : ℕ) →
    IsPresentation P → AreNextTo P d S T → Law P S T d

module _ {E : Type 0} (P : Presented E) where
  -- a remainder modulo the subalgebra is unique
  abbrev pub RemaindersAreUnique : Type 0
  RemaindersAreUnique = (a r q : Polynomial E) →
      IsSubductionRemainder P a r → IsSubductionRemainder P a q → Same P.field r q

  -- and is zero exactly for members
  abbrev pub RemaindersDecideMembership : Type 0
  RemaindersDecideMembership = (a r : Polynomial E) →
      IsSubductionRemainder P a r → InSubalgebra P a ↔ Same P.field r []

  -- the value of e at the values of the polynomials hs is the value of e with hs put in
  abbrev pub ValuesCompose : Type 0
  ValuesCompose = (e : Polynomial E) (hs fs : List (Polynomial E)) →
      Same P.field (value P.field e (map (λ h. value P.field h fs) hs)) (value P.field (value P.field e hs) fs)

  -- values at polynomials that are congruent modulo the ideal are congruent
  abbrev pub ValuesAreCongruent : Type 0
  ValuesAreCongruent = (k : ℕ) (e : Polynomial E) (fs gs : List (Polynomial E)) →
      IsPoly P.field k e → AreCongruent P fs gs →
      Congruent P.field P.order.places P.ideal (value P.field e fs) (value P.field e gs)

  -- increasing lists with the same members are equal
  abbrev pub IncreasingListsAreEqual : Type 0
  IncreasingListsAreEqual = (ms ns : List Exponents) → IsIncreasing P.order ms → IsIncreasing P.order ns →
      ((m : Exponents) → Contains ms m ↔ Contains ns m) → ms ≡ ns

  -- the elements of degree at most d of the reduced basis to c are the reduced basis to d
  abbrev pub FrontsAreReduced : Type 0
  FrontsAreReduced = (S T : List (Polynomial E)) (c d : ℕ) → IsReducedBasis P c (S ++ T) → d ≤ c →
      ((s : Polynomial E) → Contains S s → P.order.degree (lead_monomial s) ≤ d) → HaveLeadsFrom P (suc d) T →
      IsReducedBasis P d S

  -- an ideal is decided to a degree exactly if it has a list of zeros to that degree
  abbrev pub ZerosDecide : Type 0
  ZerosDecide = (c : ℕ) → IsDecidedTo P c ↔ ((zeros : List Exponents) × AreZerosTo P c zeros)

  -- if the ideal is closed at D, what holds of it to D holds in every degree
  abbrev pub ClosedIdealsKeepZeros : Type 0
  ClosedIdealsKeepZeros = (D c : ℕ) (zeros : List Exponents) →
      IsIdealClosedAt P D → AreZerosTo P D zeros → AreZerosTo P c zeros

  abbrev pub ClosedIdealsAreDecided : Type 0
  ClosedIdealsAreDecided = (D c : ℕ) → IsIdealClosedAt P D → IsDecidedTo P D → IsDecidedTo P c

  -- a basis checked element by element is the reduced basis, and the other way round
  abbrev pub CheckingIsExact : Type 0
  CheckingIsExact = (c : ℕ) (S : List (Polynomial E)) →
      IsDecidedTo P c → IsCheckedBasis P c S ↔ IsReducedBasis P c S

  module _ (S : List (Polynomial E)) where
    -- a sum of irreducible s-words that is not empty has a word with the greatest image
    abbrev pub SumsHaveTopWords : Type 0
    SumsHaveTopWords = (e : Polynomial E) →
        IsIrreducibleSum P S e → (e ≡ []) ⊎ ((w : Exponents) × IsTopWord P S e w)

    -- that image leads the value of the sum, with the coefficient of the word
    abbrev pub TopImagesLead : Type 0
    TopImagesLead = (e : Polynomial E) (w : Exponents) → IsIrreducibleSum P S e → IsTopWord P S e w →
        IsLead P.field P.order (combination_value P S e) (image_of (letters P S) w) ×
        (coefficient P.field (combination_value P S e) (image_of (letters P S) w) ≡ coefficient P.field e w)

    -- it leads the normal form of the value likewise
    abbrev pub TopImagesLeadNormalForms : Type 0
    TopImagesLeadNormalForms = (e b : Polynomial E) (w : Exponents) →
        IsIrreducibleSum P S e → IsTopWord P S e w → IsNormalForm P (combination_value P S e) b →
        IsLead P.field P.order b (image_of (letters P S) w) ×
        (coefficient P.field b (image_of (letters P S) w) ≡ coefficient P.field e w)

    -- and no polynomial that equals the value modulo the ideal has a lead below it
    abbrev pub TopImagesAreLeast : Type 0
    TopImagesAreLeast = (e a : Polynomial E) (w m : Exponents) →
        IsIrreducibleSum P S e → IsTopWord P S e w → IsPoly P.field P.order.places a →
        Congruent P.field P.order.places P.ideal a (combination_value P S e) → IsLead P.field P.order a m →
        P.order.compare m (image_of (letters P S) w) ≢ Less

    -- a standard lead of a combination is a product of leads of S
    abbrev pub CombinationsHaveGeneratedLeads : Type 0
    CombinationsHaveGeneratedLeads = (a : Polynomial E) (m : Exponents) → IsPoly P.field P.order.places a →
        IsCombination P S a → IsLead P.field P.order a m → IsStandard P m → IsGenerated (map lead_monomial S) m

    -- a sum of irreducible s-words is determined by its value modulo the ideal
    abbrev pub SumsAreUnique : Type 0
    SumsAreUnique = (a e g : Polynomial E) → IsIrreducibleSum P S e → IsIrreducibleSum P S g →
        Congruent P.field P.order.places P.ideal a (combination_value P S e) →
        Congruent P.field P.order.places P.ideal a (combination_value P S g) → e ≡ g

    -- if the elements are reduced by each other, a sum of multiples has their constants for coefficients at the leads
    abbrev pub LeadsDetermineLinearSums : Type 0
    LeadsDetermineLinearSums = AreReducedByEachOther P S → (cs : List E) (i : ℕ) → i < length cs → i < length S →
        IsValue P.field (get_or cs i P.field.zero) →
        coefficient P.field (linear_sum P cs S) (lead_monomial (get_or S i [])) ≡ get_or cs i P.field.zero

    -- a sum with a rest is unique, and a combination exactly if the rest is zero
    abbrev pub SumsAndRestsAreUnique : Type 0
    SumsAndRestsAreUnique = (a e r f q : Polynomial E) →
        HasSumAndRest P S a e r → HasSumAndRest P S a f q → (e ≡ f) × Same P.field r q

    abbrev pub RestsDecideCombinations : Type 0
    RestsDecideCombinations = (a e r : Polynomial E) → HasSumAndRest P S a e r → IsCombination P S a ↔ Same P.field r []

    -- sums of combinations, multiples by constants and what is congruent to one are combinations
    abbrev pub SumsAreCombinations : Type 0
    SumsAreCombinations = (a b : Polynomial E) →
        IsCombination P S a → IsCombination P S b → IsCombination P S (a ++ b)

    abbrev pub MultiplesAreCombinations : Type 0
    MultiplesAreCombinations = (k : E) (a : Polynomial E) →
        IsValue P.field k → IsCombination P S a → IsCombination P S (times P.field (constant P.field k) a)

    abbrev pub CongruentAreCombinations : Type 0
    CongruentAreCombinations = (a b : Polynomial E) →
        Congruent P.field P.order.places P.ideal b a → IsCombination P S a → IsCombination P S b

    -- and so are the values of irreducible s-words
    abbrev pub IrreducibleWordsAreCombinations : Type 0
    IrreducibleWordsAreCombinations = (w : Exponents) →
        IsSWord (letters P S) w → ¬ IsReducibleWord P S w → IsCombination P S (word_value P S w)

    -- the products of leads are the images of s-words
    abbrev pub ProductsAreImages : Type 0
    ProductsAreImages = (m : Exponents) →
        IsGenerated (map lead_monomial S) m ↔
        ((w : Exponents) × IsSWord (letters P S) w × (image_of (letters P S) w ≡ m))

    -- the least word of a standard image is irreducible
    abbrev pub LeastWordsAreIrreducible : Type 0
    LeastWordsAreIrreducible = (m w : Exponents) →
        IsLeast (letters P S) m w → IsStandard P m → ¬ IsReducibleWord P S w

    -- the values of s-words are members of the subalgebra
    abbrev pub SWordsAreMembers : Type 0
    SWordsAreMembers = (w : Exponents) → IsSWord (letters P S) w → InSubalgebra P (word_value P S w)

    -- and so are the values of their sums
    abbrev pub SumsOfSWordsAreMembers : Type 0
    SumsOfSWordsAreMembers = (e : Polynomial E) → IsPoly P.field (word_order_of (letters P S)).places e →
        ((w : Exponents) → coefficient P.field e w ≢ P.field.zero → IsSWord (letters P S) w) →
        InSubalgebra P (combination_value P S e)

    -- standard products of leads of S lead members of the subalgebra
    abbrev pub StandardProductsLead : Type 0
    StandardProductsLead = (m : Exponents) →
        IsStandard P m → IsGenerated (map lead_monomial S) m → LeadsSubalgebra P m

    -- the criterion: to the degree c homogeneous members are combinations, and leads of the subalgebra are generated
    abbrev pub MembersAreCombinations : ℕ → Type 0
    MembersAreCombinations c = (a : Polynomial E) (d : ℕ) → IsPoly P.field P.order.places a →
        IsHomogeneous P.field P.order d a → d ≤ c → InSubalgebra P a → IsCombination P S a

    abbrev pub LeadsAreGenerated : ℕ → Type 0
    LeadsAreGenerated c = (m : Exponents) →
        LeadsSubalgebra P m → P.order.degree m ≤ c → IsGenerated (map lead_monomial S) m

    -- each member without a monomial above the degree c is a combination
    abbrev pub LowMembersAreCombinations : ℕ → Type 0
    LowMembersAreCombinations c = (a : Polynomial E) →
        IsPoly P.field P.order.places a → HasDegreesTo P c a → InSubalgebra P a → IsCombination P S a

    -- to the degree c the leads of the subalgebra are exactly the standard products of leads of S
    abbrev pub LeadsAreExactly : ℕ → Type 0
    LeadsAreExactly c = (m : Exponents) →
        P.order.degree m ≤ c → LeadsSubalgebra P m ↔ (IsStandard P m × IsGenerated (map lead_monomial S) m)

    -- each word of degree at most c is reducible, or not
    abbrev pub WordsAreDecided : ℕ → Type 0
    WordsAreDecided c = (w : Exponents) → IsWord (letters P S) w → (word_order_of (letters P S)).degree w ≤ c →
        IsReducibleWord P S w ⊎ (IsReducibleWord P S w → ⊥)

    -- in words of degree at most c the multiples of the zeros represent the leads of the ideal
    abbrev pub ZerosRepresentTheIdeal : ℕ → List Exponents → Type 0
    ZerosRepresentTheIdeal c zeros = (w : Exponents) → (word_order_of (letters P S)).degree w ≤ c →
        (IsReducible (IsMultiple zeros) (letters P S) w ↔ IsReducibleWord P S w) ×
        (IsMinimalReducible (IsMultiple zeros) (letters P S) w ↔ IsMinimalReducible (LeadsIdeal P) (letters P S) w)

    module _ (T : List (Polynomial E)) where
      -- words over S keep their values
      abbrev pub ValuesStay : Type 0
      ValuesStay = (w : Exponents) → IsWord (letters P S) w → word_value P (S ++ T) w ≡ word_value P S w

      -- to the degree d a product of leads is one of leads of S, or is a lead of T
      abbrev pub ProductsSplit : ℕ → Type 0
      ProductsSplit d = (m : Exponents) → P.order.degree m ≤ d → IsGenerated (map lead_monomial (S ++ T)) m →
          IsGenerated (map lead_monomial S) m ⊎ Contains (map lead_monomial T) m

      -- to the degree d combinations stay combinations
      abbrev pub CombinationsStay : ℕ → Type 0
      CombinationsStay d = (a : Polynomial E) → IsPoly P.field P.order.places a → HasDegreesTo P d a →
          IsCombination P S a → IsCombination P (S ++ T) a

      -- and irreducible sums irreducible sums of the same value, if their words have degrees of at most d
      abbrev pub SumsStay : ℕ → Type 0
      SumsStay d = (e : Polynomial E) → IsIrreducibleSum P S e →
          ((w : Exponents) → coefficient P.field e w ≢ P.field.zero → (word_order_of (letters P S)).degree w ≤ d) →
          IsIrreducibleSum P (S ++ T) e × (combination_value P (S ++ T) e ≡ combination_value P S e)

      -- an irreducible sum without a letter of T is one over S, of the same value
      abbrev pub SumsWithoutNewLettersStay : Type 0
      SumsWithoutNewLettersStay = (e : Polynomial E) → IsIrreducibleSum P (S ++ T) e →
          ((w : Exponents) → coefficient P.field e w ≢ P.field.zero → IsWord (letters P S) w) →
          IsIrreducibleSum P S e × (combination_value P (S ++ T) e ≡ combination_value P S e)

      -- so do combinations at S and other elements U of a degree of at least d, if these are combinations themselves
      abbrev pub EndsCanBeExchanged : ℕ → Type 0
      EndsCanBeExchanged d = (U : List (Polynomial E)) → AreMonicElements P (S ++ U) → HaveLeadsFrom P d U →
          ((u : Polynomial E) → Contains U u → IsCombination P (S ++ T) u) →
          (a : Polynomial E) → IsPoly P.field P.order.places a → HasDegreesTo P d a →
          IsCombination P (S ++ U) a → IsCombination P (S ++ T) a

      -- the new elements of degree d are combinations themselves
      abbrev pub ElementsAreCombinations : ℕ → Type 0
      ElementsAreCombinations d = (t : Polynomial E) →
          Contains T t → P.order.degree (lead_monomial t) ≤ d → IsCombination P (S ++ T) t

      -- to the degree d the minimal reducible s-words stay
      abbrev pub MinimalWordsStay : ℕ → Type 0
      MinimalWordsStay d = (u : Exponents) →
          (word_order_of (letters P (S ++ T))).degree u ≤ d → IsMinimalWord P (S ++ T) u ↔ IsMinimalWord P S u

      -- in whatever order elements of the degree d were found, what is a combination with them is one with T
      abbrev pub OrderDoesNotMatter : ℕ → Type 0
      OrderDoesNotMatter d = (U : List (Polynomial E)) → AreMonicElements P (S ++ U) →
          ((u : Polynomial E) → Contains U u → Contains T u × (P.order.degree (lead_monomial u) ≤ d)) →
          HasCombinationsAt P d S U → HasCombinationsAt P d S T

      -- the step to the next degree d, of combinations
      abbrev pub NextAreCombinations : ℕ → Type 0
      NextAreCombinations d = (c : ℕ) → suc c ≡ d →
          HasCombinationsTo P c S → HasCombinationsAt P d S T → HasCombinationsTo P d (S ++ T)

      -- The step to the next degree d: the reduced basis to c and checked elements of that degree are the reduced
      -- basis to d, if the generators and the minimal reducible s-words over S of that degree are combinations.
      abbrev pub NextBasisIsReduced : ℕ → Type 0
      NextBasisIsReduced d = (c : ℕ) → suc c ≡ d → IsDecidedTo P d → IsReducedBasis P c S →
          ((t : Polynomial E) → Contains T t → IsCheckedElement P d (S ++ T) t) → HasCombinationsAt P d S T →
          IsReducedBasis P d (S ++ T)
