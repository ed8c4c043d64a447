-- Reduction by a list of monic polynomials: facts of private functions.
use Rattle.std.specs.Prelude.{◌≡◌, ◌≢◌, ◌++◌, List, Contains}
use Rattle.word_field.specs.Field.{FieldOps}
use Rattle.monomial_order.specs.declared.terms.Term.{Term}
use Rattle.monomial_order.specs.Monomial.{product, Exponents}
use Rattle.monomial_order.specs.MonomialOrder.{MonomialOrder}
use Rattle.polynomials.specs.Polynomial.{Polynomial, coefficient, Same, scaled, minus, IsTerm, IsPoly, IsBelow, IsCanonical, lead_monomial}
use Rattle.polynomials.specs.Subalgebra.{Presented}
use Rattle.quotient_gb.specs.Combinations.{HasLeadDivisor, AtMost, Combines}

module _ {E : Type 0} (K : FieldOps E) (O : MonomialOrder) (G : List (Polynomial E)) where
  -- r differs from a by a sum of terms times members of G, and no monomial of r is a multiple of a lead. The leads of the
  -- terms times members, and the monomials of r, have B
  pub record IsRemainderBy (B : Exponents → Type 0) (a r : Polynomial E) : Type 0 where
    pub poly : IsPoly K O.places r
    pub combines : Combines K O G B (minus K a r)
    pub has : (m : Exponents) → coefficient K r m ≢ K.zero → B m
    pub reduced : (m : Exponents) → coefficient K r m ≢ K.zero → ¬ HasLeadDivisor G m

module _ {E : Type 0} (P : Presented E) where
  -- canonical over the field and the order of P
  abbrev pub IsCanonicalIn : Polynomial E → Type 0
  IsCanonicalIn p = IsCanonical P.field P.order p

  -- canonical and monic
  pub record IsReducerIn (g : Polynomial E) : Type 0 where
    pub canonical : IsCanonicalIn g
    pub monic : coefficient P.field g (lead_monomial g) ≡ P.field.one

  abbrev pub AreReducersIn : List (Polynomial E) → Type 0
  AreReducersIn G = (g : Polynomial E) → Contains G g → IsReducerIn g

  -- r is what is left of p once a multiple of g has cancelled its lead
  pub record IsLeadReduction (p g r : Polynomial E) : Type 0 where
    pub canonical : IsCanonicalIn r
    pub below : IsBelow P.field P.order (lead_monomial p) r
    pub term : Term E
    pub is_term : IsTerm P.field P.order.places term
    pub at : product term.at (lead_monomial g) ≡ lead_monomial p
    pub sum : Same P.field r (p ++ scaled P.field term g)

  -- the canonical remainder of a by G
  pub record IsRemainderIn (G : List (Polynomial E)) (a r : Polynomial E) : Type 0 where
    pub canonical : IsCanonicalIn r
    pub remainder : IsRemainderBy P.field P.order G (AtMost P.order (lead_monomial a)) a r
