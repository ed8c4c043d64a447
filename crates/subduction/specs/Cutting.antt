-- Bases that go back to a smaller degree.
use Rattle.std.specs.Prelude.{◌≡◌, ◌≢◌, ℕ, ◌<◌, ◌≤◌, List, [], ◌∷◌, ◌++◌, map, All, Contains}
use Rattle.monomial_order.specs.Monomial.{Exponents}
use Rattle.monomial_order.specs.declared.word_order.WordOrder.{WordOrder}
use Rattle.polynomials.specs.Polynomial.{coefficient, degree_of, lead_monomial}
use Rattle.polynomials.specs.Subalgebra.{Presented, IsGenerated, IsStandard}
use Rattle.quotient_gb.specs.Quotient.{QuotientState}
use Rattle.toric_ideal.specs.Listing.{Listing}
use Rattle.subalgebra_laws.specs.Bases.{IsMonicElement}
use Rattle.witness.specs.declared.tracked.Tracked.{Tracked}
use Rattle.witness.specs.Tracking.{by_order, values_of, IsTrackedElement, IsWitnessOrder}
use Rattle.subduction.specs.Basis.{IsBasisOf}

module _ {F E : Type 0} (P : Presented E) where
  -- the elements of a degree of at most d, in front of those above it
  pub record IsCutAt (d : ℕ) (old new : List (Tracked F E)) : Type 0 where
    pub rest : List (Tracked F E)
    pub whole : old ≡ new ++ rest
    pub at_most : All (λ t. degree_of P.order t.value ≤ d) new
    pub above : All (λ t. d < degree_of P.order t.value) rest

  -- the elements with this quotient, these words and this order of witnesses are a basis
  abbrev pub IsFront : QuotientState E → Listing → WordOrder → List (Tracked F E) → Type 0
  IsFront q W w ts = IsBasisOf P (record { quotient = q; words = W; elements = ts; by_order = w })

  -- t can come next after the elements of ts, whatever orders their witnesses
  pub record IsNextAfter (ts : List (Tracked F E)) (t : Tracked F E) : Type 0 where
    pub tracked : (w : WordOrder) → IsWitnessOrder P (values_of (ts ++ t ∷ [])) w →
        IsTrackedElement P (by_order w) (values_of (ts ++ t ∷ [])) t
    pub monic : IsMonicElement P t.value
    pub standard : (m : Exponents) → coefficient P.field t.value m ≢ P.field.zero → IsStandard P m
    pub fresh : ¬ IsGenerated (map lead_monomial (values_of ts)) (lead_monomial t.value)

  -- each of the list can come next after those before it, and their degrees rise to d at most
  pub record AreNextInTurn (d : ℕ) (ts : List (Tracked F E)) : Type 0 where
    pub next : (before after : List (Tracked F E)) (t : Tracked F E) → ts ≡ before ++ (t ∷ after) →
        IsNextAfter before t
    pub rising : (before after : List (Tracked F E)) (t u : Tracked F E) → ts ≡ before ++ (t ∷ after) →
        Contains after u → degree_of P.order t.value ≤ degree_of P.order u.value
    pub low : All (λ t. degree_of P.order t.value ≤ d) ts
