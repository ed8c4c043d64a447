-- The values of words over a list of elements, as a table keeps them.
use Rattle.std.specs.Prelude.{◌≡◌, ◌≢◌, ℕ, ◌≤◌, ◌<◌, ◌+◌, ◌⊎◌, List, [], ◌∷◌, Option, Some, IsSome, true, length, Contains, nat_eq, if◌then◌else◌}
use Rattle.std.specs.Map.{lookup}
use lib.Pointwise.{pointwise}
use Rattle.monomial_order.specs.Limits.{exponent_max}
use Rattle.monomial_order.specs.Monomial.{Exponents, product, variable}
use Rattle.word_laws.specs.Words.{word_order_of, IsSWord}
use Rattle.polynomials.specs.Polynomial.{Polynomial, coefficient, IsCanonical, IsHomogeneous, lead_monomial}
use Rattle.polynomials.specs.Subalgebra.{Presented, IsStandard, IsNormalForm}
use Rattle.quotient_gb.specs.Quotient.{QuotientState, IsQuotientOf}
use Rattle.subalgebra_laws.specs.Words.{letters, word_value}
use Rattle.word_values.specs.declared.products.Split.{Split}
use Rattle.word_values.specs.declared.paths.Step.{Step}

-- words, each with what a table keeps for it
abbrev pub Table : Type 0 → Type 0
Table E = List (Exponents × Polynomial E)

-- what the table keeps for the word
abbrev pub value_in : {E : Type 0} → Table E → Exponents → Option (Polynomial E)
value_in kept w = lookup (pointwise nat_eq w) kept

-- one letter alone
abbrev pub IsLetter : Exponents → Type 0
IsLetter w = (i : ℕ) × (w ≡ variable i)

-- a letter, or a word that the table has
abbrev pub IsReady : {E : Type 0} → Table E → Exponents → Type 0
IsReady kept w = IsLetter w ⊎ IsSome (value_in kept w)

-- the table n is the table m with v for the word w
abbrev pub Puts : {E : Type 0} → Table E → Table E → Exponents → Polynomial E → Type 0
Puts m n w v = (u : Exponents) → value_in n u ≡ (if pointwise nat_eq w u then Some v else value_in m u)

-- the word times the letter
abbrev pub whole : Split → Exponents
whole s = product (variable s.letter) s.rest

module _ {E : Type 0} (P : Presented E) where
  -- a homogeneous polynomial of positive degree with standard monomials
  pub record IsHomogeneousElement (s : Polynomial E) : Type 0 where
    pub canonical : IsCanonical P.field P.order s
    pub homogeneous : IsHomogeneous P.field P.order (P.order.degree (lead_monomial s)) s
    pub positive : 1 ≤ P.order.degree (lead_monomial s)
    pub standard : (m : Exponents) → coefficient P.field s m ≢ P.field.zero → IsStandard P m

  abbrev pub AreHomogeneousElements : List (Polynomial E) → Type 0
  AreHomogeneousElements S = (s : Polynomial E) → Contains S s → IsHomogeneousElement s

  module _ (S : List (Polynomial E)) where
    abbrev pub word_degree : Exponents → ℕ
    word_degree w = (word_order_of (letters P S)).degree w

    -- v is the normal form of the value of w, zero or of the degree of w
    pub record IsWordValue (w : Exponents) (v : Polynomial E) : Type 0 where
      pub canonical : IsCanonical P.field P.order v
      pub normal : IsNormalForm P (word_value P S w) v
      pub graded : (m : Exponents) → coefficient P.field v m ≢ P.field.zero → P.order.degree m ≡ word_degree w

    -- what the value of w is made with: elements, and the quotient, to the degree of w or known to be closed
    pub record CanMake (q : QuotientState E) (w : Exponents) : Type 0 where
      pub quotient : IsQuotientOf P q
      pub elements : AreHomogeneousElements S
      pub degree : (word_degree w ≤ q.degree) ⊎ (q.closed ≡ true)
      pub small : word_degree w ≤ exponent_max

    -- an s-word, and not one letter alone, with its value
    pub record IsKept (w : Exponents) (v : Polynomial E) : Type 0 where
      pub word : IsSWord (letters P S) w
      pub long : ¬ IsLetter w
      pub value : IsWordValue w v

    -- what the table keeps are values at S
    abbrev pub AreValues : Table E → Type 0
    AreValues kept = (w : Exponents) (v : Polynomial E) → value_in kept w ≡ Some v → IsKept w v

    -- of words of degree at most d
    abbrev pub AreWordsTo : ℕ → Table E → Type 0
    AreWordsTo d kept = (w : Exponents) (v : Polynomial E) → value_in kept w ≡ Some v → word_degree w ≤ d

    -- a letter of w, and w without it
    pub record IsSplit (w : Exponents) (s : Split) : Type 0 where
      pub word : IsSWord (letters P S) s.rest
      pub first : P.order.places ≤ s.letter
      pub last : s.letter < P.order.places + length S
      pub whole_is : whole s ≡ w

    -- w is an s-word, and not one letter alone, and is split
    pub record IsStep (w : Exponents) (t : Step) : Type 0 where
      pub here : t.word ≡ w
      pub word : IsSWord (letters P S) w
      pub long : ¬ IsLetter w
      pub split : IsSplit w t.split

    -- each word of the path is split, from w down to v
    abbrev pub IsPath : Exponents → List Step → Exponents → Type 0
    IsPath w [] v = w ≡ v
    IsPath w (t ∷ ts) v = IsStep w t × IsPath t.split.rest ts v
