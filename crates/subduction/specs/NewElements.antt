-- New elements of a basis.
use Rattle.std.specs.Prelude.{◌≡◌, ◌≢◌, ℕ, ◌+◌, ◌<◌, List, [], length, get_or}
use Rattle.monomial_order.specs.Monomial.{Exponents, variable}
use Rattle.monomial_order.specs.MonomialOrder.{MonomialOrder}
use Rattle.polynomials.specs.Polynomial.{Polynomial, coefficient, degree_of, first_coefficient, lead_monomial, Same}
use Rattle.polynomials.specs.Subalgebra.{Presented}
use Rattle.subalgebra_laws.specs.Bases.{IsMonicElement}
use Rattle.witness.specs.declared.tracked.Tracked.{Tracked}
use Rattle.witness.specs.Tracking.{by_order, values_of, IsCanonicalPair, IsGradedPair, IsShort, Tracks, UsesLower}
use Rattle.subduction.specs.Basis.{BasisState, AreShortAt, IsBasisElement}

module _ {F E : Type 0} (P : Presented E) where
  -- r is t with the witness of s in place of its letter, where this is a term of the witness of t
  pub record IsWitnessPut (W : MonomialOrder) (t s letter r : Tracked F E) : Type 0 where
    pub value : Same P.field r.value t.value
    pub gone : coefficient P.field s.by (lead_monomial letter.by) ≡ P.field.zero →
        coefficient P.field r.by (lead_monomial letter.by) ≡ P.field.zero
    pub others : (m : Exponents) → lead_monomial letter.by ≢ m → coefficient P.field t.by m ≡ P.field.zero →
        coefficient P.field s.by m ≡ P.field.zero → coefficient P.field r.by m ≡ P.field.zero
    pub canonical : IsCanonicalPair P.field P.order W r
    pub tracks : (S : List (Polynomial E)) → Tracks P S t → Tracks P S s → Tracks P S letter → Tracks P S r
    pub graded : (d : ℕ) → IsGradedPair P.field P.order W d t → IsGradedPair P.field P.order W d s →
        IsGradedPair P.field P.order W d letter → IsGradedPair P.field P.order W d r

  -- r is t divided by its first coefficient
  pub record IsMonicMultiple (t r : Tracked F E) : Type 0 where
    pub multiple : (m : Exponents) → coefficient P.field t.value m ≡
        P.field.times (first_coefficient P.field t.value) (coefficient P.field r.value m)
    pub monic : coefficient P.field r.value (lead_monomial t.value) ≡ P.field.one
    pub value : (m : Exponents) → coefficient P.field t.value m ≡ P.field.zero →
        coefficient P.field r.value m ≡ P.field.zero
    pub by : (m : Exponents) → coefficient P.field t.by m ≡ P.field.zero → coefficient P.field r.by m ≡ P.field.zero
    pub canonical : (W : MonomialOrder) → IsCanonicalPair P.field P.order W t → IsCanonicalPair P.field P.order W r
    pub tracks : (S : List (Polynomial E)) → Tracks P S t → Tracks P S r
    pub graded : (W : MonomialOrder) (d : ℕ) → IsGradedPair P.field P.order W d t → IsGradedPair P.field P.order W d r
    pub kept : first_coefficient P.field t.value ≡ P.field.one → r ≡ t

  -- r is t, where the witness has no letter of the last degree among the first k
  pub record IsLoweredTo (b : BasisState F E) (t : Tracked F E) (k : ℕ) (r : Tracked F E) : Type 0 where
    pub value : Same P.field r.value t.value
    pub canonical : IsCanonicalPair P.field P.order (by_order b.by_order) r
    pub tracks : Tracks P (values_of b.elements) r
    pub graded : IsGradedPair P.field P.order (by_order b.by_order) b.words.degree r
    pub gone : (j : ℕ) → j < k → j < length (values_of b.elements) →
        degree_of P.order (get_or (values_of b.elements) j []) ≡ b.words.degree →
        coefficient P.field r.by (variable (length P.generators + j)) ≡ P.field.zero
    pub short : IsShort P.field (length P.generators) t.by → AreShortAt P b.words.degree b.elements →
        IsShort P.field (length P.generators) r.by
    pub kept : UsesLower P (values_of b.elements) t → r ≡ t

  -- r can be the next element: it is t, divided by its first coefficient
  pub record IsNextElement (b : BasisState F E) (t r : Tracked F E) : Type 0 where
    pub element : IsBasisElement P b r
    pub degree : degree_of P.order r.value ≡ b.words.degree
    pub lead : lead_monomial r.value ≡ lead_monomial t.value
    pub multiple : (m : Exponents) → coefficient P.field t.value m ≡
        P.field.times (first_coefficient P.field t.value) (coefficient P.field r.value m)
    pub short : IsShort P.field (length P.generators) t.by → AreShortAt P b.words.degree b.elements →
        IsShort P.field (length P.generators) r.by
    pub kept : IsMonicElement P t.value → UsesLower P (values_of b.elements) t → r ≡ t
