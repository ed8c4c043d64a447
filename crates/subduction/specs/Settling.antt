-- Elements reduced by each other.
use Rattle.std.specs.Prelude.{◌≡◌, ℕ, List, [], ◌∷◌, ◌++◌, Contains}
use Rattle.word_field.specs.Field.{FieldOps}
use Rattle.monomial_order.specs.Monomial.{Exponents}
use Rattle.monomial_order.specs.MonomialOrder.{MonomialOrder}
use Rattle.polynomials.specs.Polynomial.{Polynomial, coefficient, lead_monomial}
use Rattle.polynomials.specs.Subalgebra.{Presented}
use Rattle.toric_ideal.specs.Increasing.{IsSorted}
use Rattle.witness.specs.declared.tracked.Tracked.{Tracked}
use Rattle.witness.specs.Tracking.{IsCanonicalPair, IsGradedPair, Tracks}

-- the coefficient of t at the lead of u
abbrev pub lead_share : {F E : Type 0} → Presented E → Tracked F E → Tracked F E → E
lead_share P t u = coefficient P.field t.value (lead_monomial u.value)

-- r is p less c times q
abbrev pub IsDifference : {E : Type 0} → FieldOps E → E → Polynomial E → Polynomial E → Polynomial E → Type 0
IsDifference K c p q r = (m : Exponents) →
    coefficient K r m ≡ K.plus (coefficient K p m) (K.times (K.negate c) (coefficient K q m))

module _ {F E : Type 0} (P : Presented E) (W : MonomialOrder) where
  -- r is t less the multiple of u that has the coefficient of t at the lead of u
  pub record IsLess (t u r : Tracked F E) : Type 0 where
    pub value : IsDifference P.field (lead_share P t u) t.value u.value r.value
    pub by : IsDifference P.field (lead_share P t u) t.by u.by r.by
    pub canonical : IsCanonicalPair P.field P.order W r
    pub tracks : (S : List (Polynomial E)) → Tracks P S t → Tracks P S u → Tracks P S r
    pub graded : (d : ℕ) → IsGradedPair P.field P.order W d t → IsGradedPair P.field P.order W d u →
        IsGradedPair P.field P.order W d r

  -- r is t less multiples of the members of a list, one after the other
  abbrev pub AreLess : Tracked F E → List (Tracked F E) → Tracked F E → Type 0
  AreLess t [] r = r ≡ t
  AreLess t (u ∷ us) r = (s : Tracked F E) × IsLess t u s × AreLess s us r

  -- the new element u is an old one with the lead m, less multiples of those in `done`
  pub record IsMadeFrom (old done : List (Tracked F E)) (m : Exponents) (u : Tracked F E) : Type 0 where
    pub element : Tracked F E
    pub is_old : Contains old element
    pub lead : lead_monomial element.value ≡ m
    pub less : AreLess element done u

  -- each new element is an old one with its lead, less multiples of those before it
  abbrev pub AreMadeFrom : List (Tracked F E) → List (Tracked F E) → List Exponents → List (Tracked F E) → Type 0
  AreMadeFrom old done [] [] = Unit {0}
  AreMadeFrom old done [] (u ∷ us) = ⊥
  AreMadeFrom old done (m ∷ ms) [] = ⊥
  AreMadeFrom old done (m ∷ ms) (u ∷ us) = IsMadeFrom old done m u × AreMadeFrom old (done ++ u ∷ []) ms us

  -- they are made in the order of their leads
  pub record AreMadeInOrder (old : List (Tracked F E)) (leads : List Exponents) (new : List (Tracked F E)) : Type 0 where
    pub sorted : List Exponents
    pub in_order : IsSorted P.order leads sorted
    pub made : AreMadeFrom old [] sorted new
