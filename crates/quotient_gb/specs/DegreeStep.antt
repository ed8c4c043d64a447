-- The step from the basis to a degree to the basis to the next one: facts of private functions.
use Rattle.std.specs.Prelude.{◌≡◌, ◌≢◌, ℕ, ◌+◌, ◌≤◌, ◌<◌, ◌++◌, List, [], length, map, slice_index_or, Contains}
use Rattle.monomial_order.specs.Limits.{degree_max}
use Rattle.monomial_order.specs.Monomial.{IsMultiple, Exponents}
use Rattle.polynomials.specs.Polynomial.{Polynomial, coefficient, IsHomogeneous, lead_monomial}
use Rattle.polynomials.specs.Subalgebra.{Presented, IsPresentation, LeadsIdeal}
use Rattle.monomial_order.specs.MonomialOrder.{IsIncreasing}
use Rattle.quotient_gb.specs.declared.basis.Basis.{Basis}
use Rattle.quotient_gb.specs.declared.critical_pair.CriticalPair.{CriticalPair}
use Rattle.quotient_gb.specs.declared.degree_step.DegreeStep.{DegreeStep}
use Rattle.quotient_gb.specs.Combinations.{HasStandardRepresentation}
use Rattle.quotient_gb.specs.Criterion.{HasStandardSPolynomial}
use Rattle.quotient_gb.specs.IdealBasis.{AreMonicMembers, IsIdealBasis, HasStandardTail}

-- each member of xs is one of ys
abbrev pub IsPart : {A : Type 0} → List A → List A → Type 0
IsPart {A} xs ys = (x : A) → Contains xs x → Contains ys x

module _ {F E : Type 0} where
  -- each lead is that of the member at its index
  abbrev pub HasLeads : Basis F E → Type 0
  HasLeads b = b.leads.items ≡ map lead_monomial b.members.items

  -- the members of the basis, and those that the step found
  abbrev pub all_members : Basis F E → DegreeStep F E → List (Polynomial E)
  all_members b s = b.members.items ++ s.found.members.items

module _ {E : Type 0} (P : Presented E) where
  -- no monomial of g but its lead is a multiple of one of ms
  abbrev pub HasReducedTail : List Exponents → Polynomial E → Type 0
  HasReducedTail ms g = (m : Exponents) → coefficient P.field g m ≢ P.field.zero → m ≢ lead_monomial g → ¬ IsMultiple ms m

  -- the S-polynomial of the members of G at a critical pair has a standard representation by G
  abbrev pub ReducesPairOf : List (Polynomial E) → CriticalPair → Type 0
  ReducesPairOf G w = HasStandardSPolynomial P.field P.order G (slice_index_or G w.first []) (slice_index_or G w.second [])

  -- the members at the first n indices have standard tails
  abbrev pub HasTails : ℕ → List (Polynomial E) → Type 0
  HasTails n G = (i : ℕ) → i < n → i < length G → HasStandardTail P (slice_index_or G i [])

module _ {F E : Type 0} (P : Presented E) where
  -- b has the reduced basis of the ideal to the degree c
  pub record IsBasisTo (c : ℕ) (b : Basis F E) : Type 0 where
    pub leads : HasLeads b
    pub basis : IsIdealBasis P c b.members.items

  -- P is a presentation in at most 32 places, and b has the reduced basis to the degree before that of s. s has monic
  -- members of the ideal of its degree, whose leads are increasing, and no multiples of leads of b
  pub record IsStepAfter (b : Basis F E) (s : DegreeStep F E) : Type 0 where
    pub presentation : IsPresentation P
    pub before : (c : ℕ) × (s.degree ≡ c + 1) × IsBasisTo c b
    pub small : s.degree ≤ degree_max
    pub places : P.order.places ≤ 32
    pub leads : HasLeads s.found
    pub members : AreMonicMembers P s.found.members.items
    pub degrees : (g : Polynomial E) → Contains s.found.members.items g → P.order.degree (lead_monomial g) ≡ s.degree
    pub increasing : IsIncreasing P.order (map lead_monomial s.found.members.items)
    pub fresh : (g : Polynomial E) → Contains s.found.members.items g →
        ¬ IsMultiple (map lead_monomial b.members.items) (lead_monomial g)

  -- s' is a step of the same degree that found the members of s, and maybe more
  pub record IsLaterStep (b : Basis F E) (s s' : DegreeStep F E) : Type 0 where
    pub degree : s'.degree ≡ s.degree
    pub step : IsStepAfter b s'
    pub part : IsPart s.found.members.items s'.found.members.items

  -- the generators of the ideal of the step's degree have standard representations
  abbrev pub ReducesGeneratorsAt : Basis F E → DegreeStep F E → Type 0
  ReducesGeneratorsAt b s = (r : Polynomial E) → Contains P.ideal r → IsHomogeneous P.field P.order s.degree r →
      HasStandardRepresentation P.field P.order (all_members b s) r

  -- the S-polynomial of the members of b at a critical pair has a standard representation
  abbrev pub ReducesPair : Basis F E → DegreeStep F E → CriticalPair → Type 0
  ReducesPair b s w = HasStandardSPolynomial P.field P.order (all_members b s)
      (slice_index_or b.members.items w.first []) (slice_index_or b.members.items w.second [])

  -- each lead of the ideal up to the step's degree is a multiple of the lead of a member
  abbrev pub DividesLeads : Basis F E → DegreeStep F E → Type 0
  DividesLeads b s = (m : Exponents) → LeadsIdeal P m → P.order.degree m ≤ s.degree →
      IsMultiple (map lead_monomial (all_members b s)) m

  -- with the members that s found, b is the reduced basis to the degree of s
  pub record IsFinishedStep (b : Basis F E) (s : DegreeStep F E) : Type 0 where
    pub step : IsStepAfter b s
    pub divides : DividesLeads b s
    pub tails : HasTails P (length s.found.members.items) s.found.members.items
