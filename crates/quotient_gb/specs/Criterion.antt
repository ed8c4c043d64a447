-- S-polynomials, and the premises of the criterion to a degree.
use Rattle.std.specs.Prelude.{◌≡◌, ℕ, ◌≤◌, List, Contains}
use Rattle.word_field.specs.Field.{FieldOps}
use Rattle.monomial_order.specs.Monomial.{product, least_common_multiple, IsTrimmed, Exponents}
use Rattle.monomial_order.specs.MonomialOrder.{MonomialOrder}
use Rattle.polynomials.specs.Polynomial.{Polynomial, term_of, scaled, minus, IsHomogeneous, lead_monomial}
use Rattle.polynomials.specs.Subalgebra.{Presented}
use Rattle.quotient_gb.specs.Combinations.{Under, Combines, HasStandardRepresentation}
use Rattle.quotient_gb.specs.IdealBasis.{AreMonicMembers}

-- u and v take m and n to their least common multiple
pub record AreCofactors (u m v n : Exponents) : Type 0 where
  pub left_trimmed : IsTrimmed u
  pub right_trimmed : IsTrimmed v
  pub left : product u m ≡ least_common_multiple m n
  pub right : product v n ≡ least_common_multiple m n

module _ {E : Type 0} (K : FieldOps E) where
  -- u * g - v * h: the S-polynomial of g and h, if u and v take their leads to the least common multiple
  abbrev pub s_polynomial : Exponents → Polynomial E → Exponents → Polynomial E → Polynomial E
  s_polynomial u g v h = minus K (scaled K (term_of u K.one) g) (scaled K (term_of v K.one) h)

  module _ (O : MonomialOrder) (G : List (Polynomial E)) where
    -- the S-polynomial of g and h has a standard representation
    abbrev pub HasStandardSPolynomial : Polynomial E → Polynomial E → Type 0
    HasStandardSPolynomial g h =
        (u v : Exponents) → AreCofactors u (lead_monomial g) v (lead_monomial h) →
        HasStandardRepresentation K O G (s_polynomial u g v h)

    -- the S-polynomial of g and h is a sum of terms times members of G, each of a lead below the least common multiple of
    -- the leads of g and h
    abbrev pub HasRepresentationBelow : Polynomial E → Polynomial E → Type 0
    HasRepresentationBelow g h = (u v : Exponents) → AreCofactors u (lead_monomial g) v (lead_monomial h) →
        Combines K O G (Under O (least_common_multiple (lead_monomial g) (lead_monomial h))) (s_polynomial u g v h)

module _ {E : Type 0} (P : Presented E) where
  -- G has monic members of the ideal, and each generator of the ideal of degree at most c has a standard representation by G
  pub record ReducesGenerators (c : ℕ) (G : List (Polynomial E)) : Type 0 where
    pub members : AreMonicMembers P G
    pub generators : (r : Polynomial E) → Contains P.ideal r → (d : ℕ) → d ≤ c → IsHomogeneous P.field P.order d r →
        HasStandardRepresentation P.field P.order G r

  -- the S-polynomials of each two members of G, if the least common multiple of their leads has a degree of at most c, have
  -- representations below it
  abbrev pub RepresentsPairs : ℕ → List (Polynomial E) → Type 0
  RepresentsPairs c G = (g h : Polynomial E) → Contains G g → Contains G h →
      P.order.degree (least_common_multiple (lead_monomial g) (lead_monomial h)) ≤ c →
      HasRepresentationBelow P.field P.order G g h

  -- and these have standard representations
  abbrev pub ReducesPairs : ℕ → List (Polynomial E) → Type 0
  ReducesPairs c G = (g h : Polynomial E) → Contains G g → Contains G h →
      P.order.degree (least_common_multiple (lead_monomial g) (lead_monomial h)) ≤ c →
      HasStandardSPolynomial P.field P.order G g h
