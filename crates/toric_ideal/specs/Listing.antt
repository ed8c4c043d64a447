-- Words to a degree: the least words, and the rules that are the minimal reducible words.
use Rattle.std.specs.Prelude.{◌≡◌, ◌≢◌, ◌⊎◌, ℕ, ◌≤◌, ◌<◌, ◌↔◌, Bool, true, List, ◌++◌, length, map, Contains, AllPairs, IsTrue}
use Rattle.monomial_order.specs.Limits.{degree_max, exponent_max}
use Rattle.monomial_order.specs.Monomial.{Exponents, IsMonomial, Divides, weighted_degree, IsMultiple}
use Rattle.monomial_order.specs.MonomialOrder.{IsIncreasing, MonomialOrder}
use Rattle.word_laws.specs.Words.{Letters, AreLetters, word_order_of, image_of, variables, IsMinimalReducible, IsReducible, IsSWord, IsWord}
use Rattle.word_rewriting.specs.Completeness.{IsLeastOrZero}
use Rattle.toric_ideal.specs.declared.rule.Rule.{Rule}
use Rattle.toric_ideal.specs.Leads.{AreLetterLeads}

-- The rules are the minimal reducible words of degree at most d, increasing, each with the least word of its image.
pub record AreRules (L : Letters) (zeros : List Exponents) (d : ℕ) (rules : List Rule) : Type 0 where
  pub increasing : IsIncreasing (word_order_of L) (map (λ r. r.word) rules)
  pub minimal : (r : Rule) → Contains rules r → IsMinimalReducible (IsMultiple zeros) L r.word
  pub degree : (r : Rule) → Contains rules r → (word_order_of L).degree r.word ≤ d
  pub least : (r : Rule) → Contains rules r → IsLeastOrZero (IsMultiple zeros) L (image_of L r.word) r.least
  pub all : (w : Exponents) → IsMinimalReducible (IsMultiple zeros) L w → (word_order_of L).degree w ≤ d →
      (r : Rule) × Contains rules r × (r.word ≡ w)

-- the word of a rule divides w
abbrev pub HasRuleDivisor : List Rule → Exponents → Type 0
HasRuleDivisor rules w = (r : Rule) × Contains rules r × Divides r.word w

-- a monomial in the x of a degree from 1 to d
pub record IsZero (degrees : List ℕ) (d : ℕ) (z : Exponents) : Type 0 where
  pub monomial : IsMonomial (length degrees) z
  pub positive : 1 ≤ weighted_degree degrees z
  pub degree : weighted_degree degrees z ≤ d

-- Monomials in the x of degrees from 1 to d, of which none divides another.
pub record AreZeros (degrees : List ℕ) (d : ℕ) (zeros : List Exponents) : Type 0 where
  pub each : (z : Exponents) → Contains zeros z → IsZero degrees d z
  pub apart : AllPairs (λ y z. (¬ Divides y z) × (¬ Divides z y)) zeros

-- up to the degree d the two lists have the same members
abbrev pub AgreeTo : List ℕ → ℕ → List Exponents → List Exponents → Type 0
AgreeTo degrees d old new = (z : Exponents) → weighted_degree degrees z ≤ d → Contains old z ↔ Contains new z

-- The leads of degree less than d, and then those of degree d.
pub record AreParted (degrees : List ℕ) (d : ℕ) (leads lower last : List Exponents) : Type 0 where
  pub whole : leads ≡ lower ++ last
  pub lower_less : (m : Exponents) → Contains lower m → weighted_degree degrees m < d
  pub last_equal : (m : Exponents) → Contains last m → weighted_degree degrees m ≡ d

-- The leads of degree d are numbered again so that they increase, and the others are as before.
pub record IsSettled (O : MonomialOrder) (degrees : List ℕ) (d : ℕ) (old new : List Exponents) : Type 0 where
  pub lower : List Exponents
  pub before : List Exponents
  pub after : List Exponents
  pub old_parts : AreParted degrees d old lower before
  pub new_parts : AreParted degrees d new lower after
  pub members : (m : Exponents) → Contains before m ↔ Contains after m
  pub number : length after ≡ length before
  pub increasing : IsIncreasing O after

-- the letters and zeros, the degree to which words are listed, the rules, and whether these are known to be closed
pub record Listing : Type 0 where
  pub letters : Letters
  pub zeros : List Exponents
  pub degree : ℕ
  pub rules : List Rule
  pub closed : Bool

-- the word of a rule divides every reducible word
abbrev pub IsClosed : Listing → Type 0
IsClosed W = (w : Exponents) → IsWord W.letters w → IsReducible (IsMultiple W.zeros) W.letters w →
    HasRuleDivisor W.rules w

-- What holds of the listing of every `Words`.
pub record IsListing (W : Listing) : Type 0 where
  pub letters : AreLetters W.letters
  pub leads : AreLetterLeads W.letters.degrees W.letters.leads
  pub distinct : AllPairs (λ m n. m ≢ n) W.letters.leads
  pub zeros : AreZeros W.letters.degrees W.degree W.zeros
  pub small : W.degree ≤ degree_max
  pub rules : AreRules W.letters W.zeros W.degree W.rules
  pub closed : IsTrue W.closed → IsClosed W

-- m can be the next lead: a standard monomial of the degree that is not the image of an s-word
pub record IsNewLead (W : Listing) (m : Exponents) : Type 0 where
  pub monomial : IsMonomial (length W.letters.degrees) m
  pub degree : weighted_degree W.letters.degrees m ≡ W.degree
  pub standard : ¬ IsMultiple W.zeros m
  pub fresh : (u : Exponents) → IsSWord W.letters u → image_of W.letters u ≢ m

-- the order has a place for each x, and gives it its degree
pub record OrdersByDegrees (O : MonomialOrder) (degrees : List ℕ) : Type 0 where
  pub places : O.places ≡ length degrees
  pub gives : map O.degree (variables 0 (length degrees)) ≡ degrees

-- what the rules say of words of degree d is exact
abbrev pub IsDecided : Listing → ℕ → Type 0
IsDecided W d = (d ≤ W.degree) ⊎ ((W.closed ≡ true) × (d ≤ exponent_max))
