-- Values with their witnesses.
use Rattle.std.specs.Prelude.{◌≡◌, ◌≢◌, ◌⊎◌, ℕ, ◌+◌, ◌<◌, ◌≤◌, List, [], ◌∷◌, ◌++◌, length, get_or, map, All}
use Rattle.word_field.specs.Field.{FieldOps}
use Rattle.monomial_order.specs.Monomial.{Exponents, exponent, variable}
use Rattle.monomial_order.specs.MonomialOrder.{MonomialOrder}
use Rattle.monomial_order.specs.Orders.{word_order}
use Rattle.monomial_order.specs.declared.word_order.WordOrder.{WordOrder}
use Rattle.poly_core.specs.Presentation.{generator_degree}
use Rattle.polynomials.specs.Polynomial.{Polynomial, coefficient, term_of, degree_of, IsPoly, IsCanonical}
use Rattle.polynomials.specs.Ideal.{Congruent}
use Rattle.polynomials.specs.Value.{value}
use Rattle.polynomials.specs.Subalgebra.{Presented}
use Rattle.witness.specs.declared.tracked.Tracked.{Tracked}

-- the meaning of the order of witnesses
abbrev pub by_order : WordOrder → MonomialOrder
by_order w = word_order w.x_degrees.items w.s_degrees.items

-- it has n letters or more
abbrev pub HasPlaces : ℕ → WordOrder → Type 0
HasPlaces n w = let W : MonomialOrder = by_order w in n ≤ W.places

-- modulo the ideal, the value of t is that of its witness at the generators and the elements S
abbrev pub Tracks : {F E : Type 0} → Presented E → List (Polynomial E) → Tracked F E → Type 0
Tracks P S t = Congruent P.field P.order.places P.ideal t.value (value P.field t.by (P.generators ++ S))

-- the letter at a place
abbrev pub letter_poly : {E : Type 0} → FieldOps E → ℕ → Polynomial E
letter_poly K i = term_of (variable i) K.one ∷ []

-- each monomial of p has the degree d
abbrev pub IsGraded : {E : Type 0} → FieldOps E → MonomialOrder → ℕ → Polynomial E → Type 0
IsGraded K O d p = (m : Exponents) → coefficient K p m ≢ K.zero → O.degree m ≡ d

-- each monomial of p has a degree of at most d
abbrev pub HasDegreesUpTo : {E : Type 0} → FieldOps E → MonomialOrder → ℕ → Polynomial E → Type 0
HasDegreesUpTo K O d p = (m : Exponents) → coefficient K p m ≢ K.zero → O.degree m ≤ d

module _ {F E : Type 0} (K : FieldOps E) (O W : MonomialOrder) where
  -- both parts are in canonical form, each in its order
  pub record IsCanonicalPair (t : Tracked F E) : Type 0 where
    pub value : IsCanonical K O t.value
    pub by : IsCanonical K W t.by

  -- both parts are zero or homogeneous of degree d
  pub record IsGradedPair (d : ℕ) (t : Tracked F E) : Type 0 where
    pub value : IsGraded K O d t.value
    pub by : IsGraded K W d t.by

-- the values of a list
abbrev pub values_of : {F E : Type 0} → List (Tracked F E) → List (Polynomial E)
values_of ts = map (λ t. t.value) ts

-- The letters of w are those of the generators and then those of the elements S, each with its degree. The letter of a
-- generator that is zero has the degree 1.
pub record IsWitnessOrder {E : Type 0} (P : Presented E) (S : List (Polynomial E)) (w : WordOrder) : Type 0 where
  pub no_x : w.x_degrees.items ≡ []
  pub degrees : w.s_degrees.items ≡ map (generator_degree P.order) P.generators ++ map (degree_of P.order) S

module _ {F E : Type 0} (P : Presented E) where
  -- the elements of S whose letters are in the witness of t have smaller degrees than t
  abbrev pub UsesLower : List (Polynomial E) → Tracked F E → Type 0
  UsesLower S t = (m : Exponents) → coefficient P.field t.by m ≢ P.field.zero →
      (i : ℕ) → exponent m (length P.generators + i) ≢ 0 →
      degree_of P.order (get_or S i []) < degree_of P.order t.value

  -- a witness in the generators and the elements S, of which it uses those of smaller degree alone
  pub record IsLowerElement (S : List (Polynomial E)) (t : Tracked F E) : Type 0 where
    pub value : IsPoly P.field P.order.places t.value
    pub by : IsPoly P.field (length P.generators + length S) t.by
    pub tracks : Tracks P S t
    pub lower : UsesLower S t

  -- what is asked of each element of S: it is homogeneous with a witness over the elements of smaller degree
  pub record IsTrackedElement (W : MonomialOrder) (S : List (Polynomial E)) (t : Tracked F E) : Type 0 where
    pub tracks : Tracks P S t
    pub canonical : IsCanonicalPair P.field P.order W t
    pub graded : IsGradedPair P.field P.order W (degree_of P.order t.value) t
    pub lower : UsesLower S t

-- each of the list is one over its values
abbrev pub AreTrackedElements : {F E : Type 0} → Presented E → MonomialOrder → List (Tracked F E) → Type 0
AreTrackedElements P W ts = All (IsTrackedElement P W (values_of ts)) ts

-- a single letter of the first k, or a monomial in the other letters
abbrev pub IsShortMonomial : ℕ → Exponents → Type 0
IsShortMonomial k m = ((i : ℕ) × (i < k) × (m ≡ variable i)) ⊎ ((i : ℕ) → i < k → exponent m i ≡ 0)

-- each monomial of a witness is a single letter of one of the k generators, or has letters of elements alone
abbrev pub IsShort : {E : Type 0} → FieldOps E → ℕ → Polynomial E → Type 0
IsShort K k h = (m : Exponents) → coefficient K h m ≢ K.zero → IsShortMonomial k m

-- modulo the ideal, the value of e at the generators is that of h at the generators and the elements S
abbrev pub Expands : {E : Type 0} → Presented E → List (Polynomial E) → Polynomial E → Polynomial E → Type 0
Expands P S h e = Congruent P.field P.order.places P.ideal
    (value P.field h (P.generators ++ S)) (value P.field e P.generators)
