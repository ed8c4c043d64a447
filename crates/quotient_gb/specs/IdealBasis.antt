-- The reduced basis of the ideal to a degree, and the minimal leads of the ideal.
use Rattle.std.specs.Prelude.{◌≡◌, ◌≢◌, ℕ, ◌≤◌, List, map, Contains}
use Rattle.monomial_order.specs.Monomial.{Divides, IsMultiple, Exponents}
use Rattle.polynomials.specs.Polynomial.{Polynomial, coefficient, IsDecreasing, lead_monomial}
use Rattle.polynomials.specs.Ideal.{InIdeal}
use Rattle.polynomials.specs.Subalgebra.{Presented, LeadsIdeal, IsStandard}
use Rattle.monomial_order.specs.MonomialOrder.{IsIncreasing}

module _ {E : Type 0} (P : Presented E) where
  -- a monic member of the ideal in decreasing form
  pub record IsMonicMember (g : Polynomial E) : Type 0 where
    pub decreasing : IsDecreasing P.field P.order g
    pub monic : coefficient P.field g (lead_monomial g) ≡ P.field.one
    pub inside : InIdeal P.field P.order.places P.ideal g

  abbrev pub AreMonicMembers : List (Polynomial E) → Type 0
  AreMonicMembers G = (g : Polynomial E) → Contains G g → IsMonicMember g

  -- every monomial of g but its lead is standard
  abbrev pub HasStandardTail : Polynomial E → Type 0
  HasStandardTail g = (m : Exponents) → coefficient P.field g m ≢ P.field.zero → m ≢ lead_monomial g → IsStandard P m

  -- increasing leads of the ideal of degree at most c, of which none divides another, and each lead of the ideal of
  -- degree at most c is a multiple of one of them
  pub record AreIdealLeads (c : ℕ) (ms : List Exponents) : Type 0 where
    pub increasing : IsIncreasing P.order ms
    pub leads : (m : Exponents) → Contains ms m → LeadsIdeal P m
    pub degrees : (m : Exponents) → Contains ms m → P.order.degree m ≤ c
    pub minimal : (m n : Exponents) → Contains ms m → Contains ms n → Divides m n → m ≡ n
    pub divides : (m : Exponents) → LeadsIdeal P m → P.order.degree m ≤ c → IsMultiple ms m

  -- the reduced basis of the ideal to the degree c
  pub record IsIdealBasis (c : ℕ) (G : List (Polynomial E)) : Type 0 where
    pub members : AreMonicMembers G
    pub tails : (g : Polynomial E) → Contains G g → HasStandardTail g
    pub leads : AreIdealLeads c (map lead_monomial G)

  -- m is a lead of the ideal, and no other one divides it
  pub record IsMinimalLead (m : Exponents) : Type 0 where
    pub leads : LeadsIdeal P m
    pub minimal : (n : Exponents) → LeadsIdeal P n → Divides n m → n ≡ m
