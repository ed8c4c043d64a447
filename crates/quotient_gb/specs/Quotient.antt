-- What a quotient knows of the ideal of a presentation.
use Rattle.std.specs.Prelude.{◌≡◌, ℕ, ◌≤◌, ◌<◌, ◌++◌, List, Bool, true, map, Contains}
use Rattle.monomial_order.specs.Limits.{degree_max}
use Rattle.monomial_order.specs.Monomial.{IsMultiple, Exponents}
use Rattle.polynomials.specs.Polynomial.{Polynomial, IsHomogeneous, lead_monomial}
use Rattle.polynomials.specs.Subalgebra.{Presented, LeadsIdeal}
use Rattle.quotient_gb.specs.declared.critical_pair.CriticalPair.{CriticalPair}
use Rattle.quotient_gb.specs.IdealBasis.{IsIdealBasis}
use Rattle.quotient_gb.specs.CriticalPairs.{HasPairsAbove}

-- the greatest degree of a quotient that may be asked whether it is closed
abbrev pub closing_max : ℕ
closing_max = 15000

-- A quotient as its contracts see it: its degree, the members of a basis with their leads, the critical pairs above the
-- degree, and whether it is known to be closed.
pub record QuotientState (E : Type 0) : Type 0 where
  pub degree : ℕ
  pub leads : List Exponents
  pub members : List (Polynomial E)
  pub pairs : List CriticalPair
  pub closed : Bool

module _ {E : Type 0} (P : Presented E) where
  -- no generator of the ideal has a degree above c, and each lead of the ideal is a multiple of one of ms
  pub record IsClosed (c : ℕ) (ms : List Exponents) : Type 0 where
    pub generators : (r : Polynomial E) → Contains P.ideal r → (d : ℕ) → IsHomogeneous P.field P.order d r → d ≤ c
    pub divides : (m : Exponents) → LeadsIdeal P m → IsMultiple ms m

  -- a generator of the ideal has a degree above c
  abbrev pub HasGeneratorAbove : ℕ → Type 0
  HasGeneratorAbove c = (r : Polynomial E) × Contains P.ideal r × (d : ℕ) × IsHomogeneous P.field P.order d r × (c < d)

  -- a lead of the ideal is a multiple of none of ms
  abbrev pub HasOtherLead : List Exponents → Type 0
  HasOtherLead ms = (m : Exponents) × LeadsIdeal P m × (¬ IsMultiple ms m)

-- q has the reduced basis of the ideal of P to its degree, and the critical pairs above that degree
pub record IsQuotientOf {E : Type 0} (P : Presented E) (q : QuotientState E) : Type 0 where
  pub small : q.degree ≤ degree_max
  pub basis : IsIdealBasis P q.degree q.members
  pub leads : q.leads ≡ map lead_monomial q.members
  pub pairs : HasPairsAbove P.order q.leads q.degree q.pairs
  pub closed : q.closed ≡ true → IsClosed P q.degree q.leads

-- q to the degree c
abbrev pub with_degree : {E : Type 0} → ℕ → QuotientState E → QuotientState E
with_degree c q = record { degree = c; leads = q.leads; members = q.members; pairs = q.pairs; closed = q.closed }

-- q, known to be closed or not
abbrev pub with_closed : {E : Type 0} → Bool → QuotientState E → QuotientState E
with_closed b q = record { degree = q.degree; leads = q.leads; members = q.members; pairs = q.pairs; closed = b }

-- the second list begins with the first
abbrev pub Begins : {A : Type 0} → List A → List A → Type 0
Begins {A} xs ys = (more : List A) × (ys ≡ xs ++ more)

-- q' has what q has, and more at the ends of its lists
pub record IsExtension {E : Type 0} (q q' : QuotientState E) : Type 0 where
  pub leads : Begins q.leads q'.leads
  pub members : Begins q.members q'.members
  pub pairs : Begins q.pairs q'.pairs
  pub closed : q'.closed ≡ q.closed
