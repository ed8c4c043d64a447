-- Monic members of the ideal, and the premises of the criterion at every degree.
use Rattle.std.proofs.Common.{ℕ, ◌+◌, ◌≤◌, ap, List, [], ◌∷◌, arith}
use Rattle.std.specs.Prelude.{Contains}
use Rattle.monomial_order.specs.declared.terms.Term.{Term}
use Rattle.monomial_order.specs.Monomial.{IsMonomial, Exponents}
use Rattle.polynomials.specs.Polynomial.{Polynomial, coefficient, term_of, times, scaled, negated, IsTerm, IsHomogeneous, lead_monomial}
use Rattle.polynomials.specs.Ideal.{InIdeal}
use Rattle.polynomials.specs.Subalgebra.{Presented, IsPresentation}
use Rattle.polynomials.specs.laws.Ideal.{InIdeal_same, InIdeal_plus, InIdeal_times}
use Rattle.polynomials.specs.laws.Congruence.{InIdeal_negated}
use Rattle.quotient_gb.specs.Criterion.{s_polynomial, ReducesGenerators, RepresentsPairs}
use Rattle.quotient_gb.specs.IdealBasis.{AreMonicMembers}
use Rattle.quotient_gb.proofs.Multiples.{degree-lcm}
use Rattle.quotient_gb.proofs.Combinations.{scaled_is}
use Rattle.quotient_gb.proofs.Criterion.{reducer, monomials}

module _ {E : Type 0} (P : Presented E) (H : IsPresentation P) (G : List (Polynomial E)) where
  module _ (members : AreMonicMembers P G) where
    pub lead_is : (g : Polynomial E) → Contains G g → IsMonomial P.order.places (lead_monomial g)
    lead_is g h = monomials P.field H.field P.order H.order G (reducer P H G members) g h

    -- a term times a member lies in the ideal
    pub scaled_inside : (t : Term E) (g : Polynomial E) → IsTerm P.field P.order.places t → Contains G g → InIdeal P.field P.order.places P.ideal (scaled P.field t g)
    scaled_inside t g ht h =
        InIdeal_same P.field H.field P.order.places P.ideal (times P.field (t ∷ []) g) (scaled P.field t g) (λ m. ap (λ x. coefficient P.field x m) (scaled_is P.field H.field t g))
        (InIdeal_times P.field H.field P.order.places P.ideal (t ∷ []) g (ht, tt) (members g h).inside)

    -- an S-polynomial lies in the ideal
    pub s_polynomial_inside : (u v : Exponents) (g h : Polynomial E) → IsMonomial P.order.places u → IsMonomial P.order.places v → Contains G g → Contains G h →
        InIdeal P.field P.order.places P.ideal (s_polynomial P.field u g v h)
    s_polynomial_inside u v g h hu hv hg hh =
        InIdeal_plus P.field H.field P.order.places P.ideal (scaled P.field (term_of u P.field.one) g) (negated P.field (scaled P.field (term_of v P.field.one) h))
        (scaled_inside (term_of u P.field.one) g (record { monomial = hu; value = H.field.one_value }) hg)
        (InIdeal_negated P.field H.field P.order.places P.ideal (scaled P.field (term_of v P.field.one) h) (scaled_inside (term_of v P.field.one) h (record { monomial = hv; value = H.field.one_value }) hh))

    -- if each pair to the degree D + D has a representation below, each pair has one
    pub represents_all : (D : ℕ) → ((g : Polynomial E) → Contains G g → P.order.degree (lead_monomial g) ≤ D) → RepresentsPairs P (D + D) G → (c : ℕ) → RepresentsPairs P c G
    represents_all D degrees h c g k hg hk l =
        h g k hg hk (let e = degree-lcm P.order H.order P.order.places (lead_monomial g) (lead_monomial k) (lead_is g hg) (lead_is k hk) in let a = degrees g hg in let b = degrees k hk in omega arith)

    -- and the generators, if their degrees are at most D
    pub reduces_all : (D : ℕ) → ((r : Polynomial E) → Contains P.ideal r → (d : ℕ) → IsHomogeneous P.field P.order d r → d ≤ D) →
        ReducesGenerators P (D + D) G → (c : ℕ) → ReducesGenerators P c G
    reduces_all D degrees h c = record { members = h.members; generators = λ r k d l hd. h.generators r k d (let e = degrees r k d hd in omega arith) hd }
