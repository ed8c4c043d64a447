-- The subalgebra that a list of polynomials generates modulo an ideal, and its reduced basis to a degree.
use Rattle.std.specs.Prelude.{◌≡◌, ◌≢◌, ℕ, ◌≤◌, ◌⊎◌, List, [], ◌∷◌, ◌++◌, length, map, Contains}
use Rattle.word_field.specs.Field.{FieldOps, IsField}
use Rattle.monomial_order.specs.Monomial.{Exponents, product, IsMonomial, Divides}
use Rattle.monomial_order.specs.MonomialOrder.{IsIncreasing, MonomialOrder, IsMonomialOrder}
use Rattle.polynomials.specs.Polynomial.{Polynomial, coefficient, IsPoly, IsLead, IsHomogeneous, IsDecreasing, lead_monomial, minus}
use Rattle.polynomials.specs.Ideal.{InIdeal}
use Rattle.polynomials.specs.Value.{value}

-- What is presented: a field, an order of the monomials, the generators of an ideal, and the generators of the subalgebra.
pub record Presented (E : Type 0) : Type 0 where
  pub field : FieldOps E
  pub order : MonomialOrder
  pub ideal : List (Polynomial E)
  pub generators : List (Polynomial E)

-- each of the polynomials is one in n places, and is zero or homogeneous of a positive degree
pub record IsGenerator {E : Type 0} (K : FieldOps E) (O : MonomialOrder) (f : Polynomial E) : Type 0 where
  pub poly : IsPoly K O.places f
  pub homogeneous : ((m : Exponents) → coefficient K f m ≡ K.zero) ⊎ ((d : ℕ) × (1 ≤ d) × IsHomogeneous K O d f)

abbrev pub AreGenerators : {E : Type 0} → FieldOps E → MonomialOrder → List (Polynomial E) → Type 0
AreGenerators K O [] = Unit {0}
AreGenerators K O (f ∷ fs) = IsGenerator K O f × AreGenerators K O fs

-- a presentation
pub record IsPresentation {E : Type 0} (P : Presented E) : Type 0 where
  pub field : IsField P.field
  pub order : IsMonomialOrder P.order
  pub ideal : AreGenerators P.field P.order P.ideal
  pub generators : AreGenerators P.field P.order P.generators

-- the product of a list of monomials
abbrev pub product_of : List Exponents → Exponents
product_of [] = []
product_of (m ∷ ms) = product m (product_of ms)

-- each member of ms is in the list M
abbrev pub AllIn : List Exponents → List Exponents → Type 0
AllIn M [] = Unit {0}
AllIn M (m ∷ ms) = Contains M m × AllIn M ms

-- m is a product of members of M
pub record IsGenerated (M : List Exponents) (m : Exponents) : Type 0 where
  pub factors : List Exponents
  pub members : AllIn M factors
  pub product : product_of factors ≡ m

module _ {E : Type 0} (P : Presented E) where
  -- m is the lead of a member of the ideal
  pub record LeadsIdeal (m : Exponents) : Type 0 where
    pub member : Polynomial E
    pub poly : IsPoly P.field P.order.places member
    pub inside : InIdeal P.field P.order.places P.ideal member
    pub leads : IsLead P.field P.order member m

  -- a homogeneous member of the ideal with the lead m
  pub record HasHomogeneousLead (m : List ℕ) (a : Polynomial E) : Type 0 where
    pub poly : IsPoly P.field P.order.places a
    pub inside : InIdeal P.field P.order.places P.ideal a
    pub homogeneous : IsHomogeneous P.field P.order (P.order.degree m) a
    pub leads : IsLead P.field P.order a m

  -- a standard monomial leads no member of the ideal
  pub record IsStandard (m : Exponents) : Type 0 where
    pub monomial : IsMonomial P.order.places m
    pub no_lead : ¬ LeadsIdeal m

  -- of each monomial of degree at most c it is known that it leads a member of the ideal, or that it leads none
  abbrev pub IsDecidedTo : ℕ → Type 0
  IsDecidedTo c = (m : Exponents) →
      IsMonomial P.order.places m → P.order.degree m ≤ c → LeadsIdeal m ⊎ (LeadsIdeal m → ⊥)

  -- zeros are leads of members of the ideal, and divide each such lead of degree at most c
  pub record AreZerosTo (c : ℕ) (zeros : List Exponents) : Type 0 where
    pub lead : (n : Exponents) → Contains zeros n → LeadsIdeal n
    pub divide : (m : Exponents) → LeadsIdeal m → P.order.degree m ≤ c →
        (n : Exponents) × Contains zeros n × Divides n m

  -- each monomial of a has a degree of at most d
  abbrev pub HasDegreesTo : ℕ → Polynomial E → Type 0
  HasDegreesTo d a = (m : Exponents) → coefficient P.field a m ≢ P.field.zero → P.order.degree m ≤ d

  -- b is a polynomial that differs from a by a member of the ideal and has only standard monomials
  pub record IsNormalForm (a b : Polynomial E) : Type 0 where
    pub poly : IsPoly P.field P.order.places b
    pub inside : InIdeal P.field P.order.places P.ideal (minus P.field a b)
    pub standard : (m : Exponents) → coefficient P.field b m ≢ P.field.zero → IsStandard m

  -- a differs by a member of the ideal from a value of the generators
  pub record InSubalgebra (a : Polynomial E) : Type 0 where
    pub witness : Polynomial E
    pub poly : IsPoly P.field (length P.generators) witness
    pub inside : InIdeal P.field P.order.places P.ideal (minus P.field a (value P.field witness P.generators))

  -- m is a standard monomial that leads a member of the subalgebra
  pub record LeadsSubalgebra (m : Exponents) : Type 0 where
    pub standard : IsStandard m
    pub member : Polynomial E
    pub poly : IsPoly P.field P.order.places member
    pub inside : InSubalgebra member
    pub leads : IsLead P.field P.order member m

  -- a member of a reduced basis
  pub record IsElement (c : ℕ) (s : Polynomial E) : Type 0 where
    pub decreasing : IsDecreasing P.field P.order s
    pub inside : InSubalgebra s
    pub monic : coefficient P.field s (lead_monomial s) ≡ P.field.one
    pub homogeneous : IsHomogeneous P.field P.order (P.order.degree (lead_monomial s)) s
    pub at_least : 1 ≤ P.order.degree (lead_monomial s)
    pub at_most : P.order.degree (lead_monomial s) ≤ c
    pub standard : (m : Exponents) → coefficient P.field s m ≢ P.field.zero → IsStandard m
    pub tail : (m : Exponents) → coefficient P.field s m ≢ P.field.zero → m ≢ lead_monomial s → ¬ LeadsSubalgebra m

  -- S is the reduced basis to the degree c
  pub record IsReducedBasis (c : ℕ) (S : List (Polynomial E)) : Type 0 where
    pub increasing : IsIncreasing P.order (map lead_monomial S)
    pub elements : (s : Polynomial E) → Contains S s → IsElement c s
    pub minimal : (before after : List (Polynomial E)) (s : Polynomial E) →
        S ≡ before ++ (s ∷ after) → ¬ IsGenerated (map lead_monomial (before ++ after)) (lead_monomial s)
    pub generates : (m : Exponents) → LeadsSubalgebra m → P.order.degree m ≤ c → IsGenerated (map lead_monomial S) m
