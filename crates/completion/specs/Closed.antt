-- What shows that something new comes after a degree.
use Rattle.std.specs.Prelude.{◌⊎◌, ℕ, ◌<◌, ◌≤◌, List, Contains}
use Rattle.monomial_order.specs.Monomial.{Exponents, Divides}
use Rattle.word_laws.specs.Words.{IsWord}
use Rattle.polynomials.specs.Polynomial.{Polynomial, IsHomogeneous}
use Rattle.polynomials.specs.Subalgebra.{Presented, HasDegreesTo, LeadsIdeal}
use Rattle.toric_ideal.specs.declared.rule.Rule.{Rule}
use Rattle.subalgebra_laws.specs.Words.{letters, IsReducibleWord}
use Rattle.witness.specs.Tracking.{values_of}
use Rattle.word_values.specs.Values.{word_degree}
use Rattle.subduction.specs.Basis.{BasisState}

module _ {E : Type 0} (P : Presented E) (c : ℕ) where
  -- a polynomial of the list has a degree above c
  pub record HasHigher (list : List (Polynomial E)) : Type 0 where
    pub polynomial : Polynomial E
    pub member : Contains list polynomial
    pub degree : ℕ
    pub homogeneous : IsHomogeneous P.field P.order degree polynomial
    pub higher : c < degree

  -- a lead of the ideal is a multiple of none of degree at most c
  pub record HasNewLead : Type 0 where
    pub monomial : Exponents
    pub lead : LeadsIdeal P monomial
    pub new : (n : Exponents) → LeadsIdeal P n → Divides n monomial → c < P.order.degree n

  -- a reducible word is a multiple of none of degree at most c
  pub record HasNewWord (S : List (Polynomial E)) : Type 0 where
    pub word : Exponents
    pub is_word : IsWord (letters P S) word
    pub reducible : IsReducibleWord P S word
    pub new : (v : Exponents) → IsWord (letters P S) v → IsReducibleWord P S v → Divides v word → c < word_degree P S v

  -- a generator, a lead of the ideal or a reducible word comes after the degree c
  abbrev pub HasLater : List (Polynomial E) → Type 0
  HasLater S = (HasHigher P.generators ⊎ HasHigher P.ideal) ⊎ (HasNewLead ⊎ HasNewWord S)

  -- generators, leads of the quotient and rules have degrees of at most c
  pub record HasNoneAbove {F : Type 0} (b : BasisState F E) : Type 0 where
    pub generators : (f : Polynomial E) → Contains P.generators f → HasDegreesTo P c f
    pub ideal : (r : Polynomial E) → Contains P.ideal r → HasDegreesTo P c r
    pub leads : (m : Exponents) → Contains b.quotient.leads m → P.order.degree m ≤ c
    pub rules : (r : Rule) → Contains b.words.rules r → word_degree P (values_of b.elements) r.word ≤ c
