-- Lists of elements: what is asked of them, what can be checked of them, and when no later degree brings anything new.
use Rattle.std.specs.Prelude.{◌≡◌, ◌≢◌, ℕ, ◌<◌, ◌≤◌, List, [], ◌∷◌, ◌++◌, length, get_or, map, Contains}
use Rattle.monomial_order.specs.Monomial.{Exponents, Divides}
use Rattle.word_laws.specs.Words.{word_order_of, IsWord}
use Rattle.polynomials.specs.Polynomial.{Polynomial, coefficient, IsPoly, IsDecreasing, IsHomogeneous, lead_monomial}
use Rattle.polynomials.specs.Ideal.{Congruent}
use Rattle.polynomials.specs.Subalgebra.{Presented, InSubalgebra, LeadsIdeal, IsStandard, IsGenerated, HasDegreesTo}
use Rattle.monomial_order.specs.MonomialOrder.{IsIncreasing}
use Rattle.subalgebra_laws.specs.Words.{letters, word_value, IsReducibleWord, IsMinimalWord, IsCombination}

module _ {E : Type 0} (P : Presented E) where
  -- a monic and decreasing list with a lead of positive degree
  pub record IsMonicElement (s : Polynomial E) : Type 0 where
    pub decreasing : IsDecreasing P.field P.order s
    pub monic : coefficient P.field s (lead_monomial s) ≡ P.field.one
    pub positive : 1 ≤ P.order.degree (lead_monomial s)

  abbrev pub AreMonicElements : List (Polynomial E) → Type 0
  AreMonicElements S = (s : Polynomial E) → Contains S s → IsMonicElement s

  abbrev pub AreMembers : List (Polynomial E) → Type 0
  AreMembers S = (s : Polynomial E) → Contains S s → InSubalgebra P s

  -- two lists of polynomials that are congruent modulo the ideal, one by one
  pub record AreCongruent (fs gs : List (Polynomial E)) : Type 0 where
    pub same_length : length fs ≡ length gs
    pub left : (f : Polynomial E) → Contains fs f → IsPoly P.field P.order.places f
    pub right : (g : Polynomial E) → Contains gs g → IsPoly P.field P.order.places g
    pub each : (i : ℕ) → i < length fs → Congruent P.field P.order.places P.ideal (get_or fs i []) (get_or gs i [])

  -- no lead of S is a monomial of another element
  abbrev pub AreReducedByEachOther : List (Polynomial E) → Type 0
  AreReducedByEachOther S = (i j : ℕ) → i < length S → j < length S → i ≢ j →
      coefficient P.field (get_or S i []) (lead_monomial (get_or S j [])) ≡ P.field.zero

  -- the leads of T have degrees of at least d
  abbrev pub HaveLeadsFrom : ℕ → List (Polynomial E) → Type 0
  HaveLeadsFrom d T = (t : Polynomial E) → Contains T t → d ≤ P.order.degree (lead_monomial t)

  -- to the degree c the nonzero generators and the values of the minimal reducible s-words are combinations
  pub record HasCombinationsTo (c : ℕ) (S : List (Polynomial E)) : Type 0 where
    pub generators : (f : Polynomial E) (d : ℕ) →
        Contains P.generators f → IsHomogeneous P.field P.order d f → d ≤ c → IsCombination P S f
    pub words : (u : Exponents) →
        IsMinimalWord P S u → (word_order_of (letters P S)).degree u ≤ c → IsCombination P S (word_value P S u)

  -- the generators and the minimal reducible s-words over S of the degree d are combinations over S and T
  pub record HasCombinationsAt (d : ℕ) (S T : List (Polynomial E)) : Type 0 where
    pub generators : (f : Polynomial E) →
        Contains P.generators f → IsHomogeneous P.field P.order d f → IsCombination P (S ++ T) f
    pub words : (u : Exponents) →
        IsMinimalWord P S u → (word_order_of (letters P S)).degree u ≡ d → IsCombination P (S ++ T) (word_value P S u)

  -- each lead of a member of the ideal is a multiple of one of degree at most D
  abbrev pub IsIdealClosedAt : ℕ → Type 0
  IsIdealClosedAt D = (m : Exponents) →
      LeadsIdeal P m → (n : Exponents) × LeadsIdeal P n × Divides n m × (P.order.degree n ≤ D)

  -- each reducible word is a multiple of one of degree at most D
  abbrev pub AreReducibleWordsClosedAt : ℕ → List (Polynomial E) → Type 0
  AreReducibleWordsClosedAt D S = (w : Exponents) → IsWord (letters P S) w → IsReducibleWord P S w →
      (v : Exponents) × IsWord (letters P S) v × IsReducibleWord P S v × Divides v w ×
      ((word_order_of (letters P S)).degree v ≤ D)

  -- nothing new comes after the degree D
  pub record IsClosedAt (D : ℕ) (S : List (Polynomial E)) : Type 0 where
    pub generators : (f : Polynomial E) → Contains P.generators f → HasDegreesTo P D f
    pub ideal : (r : Polynomial E) → Contains P.ideal r → HasDegreesTo P D r
    pub leads : IsIdealClosedAt D
    pub words : AreReducibleWordsClosedAt D S

  -- the elements T come after S in a degree of at least d: their leads are no products of leads of S
  pub record AreAfter (d : ℕ) (S T : List (Polynomial E)) : Type 0 where
    pub monic : AreMonicElements (S ++ T)
    pub degree : HaveLeadsFrom d T
    pub new : (t : Polynomial E) → Contains T t → ¬ IsGenerated (map lead_monomial S) (lead_monomial t)

  -- and their leads are standard, and differ
  pub record AreStandardAfter (d : ℕ) (S T : List (Polynomial E)) : Type 0 where
    pub after : AreAfter d S T
    pub standard : (t : Polynomial E) → Contains T t → IsStandard P (lead_monomial t)
    pub differ : (i j : ℕ) → i < length T → j < length T →
        lead_monomial (get_or T i []) ≡ lead_monomial (get_or T j []) → i ≡ j

  -- or they are increasing
  pub record AreNextTo (d : ℕ) (S T : List (Polynomial E)) : Type 0 where
    pub after : AreAfter d S T
    pub standard : (t : Polynomial E) → Contains T t → IsStandard P (lead_monomial t)
    pub increasing : IsIncreasing P.order (map lead_monomial T)

  -- a monic homogeneous member of the subalgebra of a degree from 1 to c, a decreasing list of standard monomials
  pub record IsStandardElement (c : ℕ) (s : Polynomial E) : Type 0 where
    pub decreasing : IsDecreasing P.field P.order s
    pub inside : InSubalgebra P s
    pub monic : coefficient P.field s (lead_monomial s) ≡ P.field.one
    pub homogeneous : IsHomogeneous P.field P.order (P.order.degree (lead_monomial s)) s
    pub at_least : 1 ≤ P.order.degree (lead_monomial s)
    pub at_most : P.order.degree (lead_monomial s) ≤ c
    pub standard : (m : Exponents) → coefficient P.field s m ≢ P.field.zero → IsStandard P m

  -- and of S, by conditions that look at S alone: no other monomial of it is a product of leads
  pub record IsCheckedElement (c : ℕ) (S : List (Polynomial E)) (s : Polynomial E) : Type 0 where
    pub element : IsStandardElement c s
    pub open element use *
    pub tail : (m : Exponents) → coefficient P.field s m ≢ P.field.zero → m ≢ lead_monomial s →
        ¬ IsGenerated (map lead_monomial S) m

  -- no lead of S is a product of the others
  abbrev pub HasMinimalLeads : List (Polynomial E) → Type 0
  HasMinimalLeads S = (before after : List (Polynomial E)) (s : Polynomial E) →
      S ≡ before ++ (s ∷ after) → ¬ IsGenerated (map lead_monomial (before ++ after)) (lead_monomial s)

  -- a basis to c, checked element by element, generator by generator and word by word
  pub record IsCheckedBasis (c : ℕ) (S : List (Polynomial E)) : Type 0 where
    pub increasing : IsIncreasing P.order (map lead_monomial S)
    pub elements : (s : Polynomial E) → Contains S s → IsCheckedElement c S s
    pub minimal : HasMinimalLeads S
    pub combinations : HasCombinationsTo c S
