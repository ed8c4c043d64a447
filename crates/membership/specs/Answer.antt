-- What is answered to the question whether a polynomial is in the subalgebra.
use Rattle.std.specs.Prelude.{◌≡◌, ◌≢◌, ◌⊎◌, ℕ, ◌<◌, ◌≤◌, List, [], length}
use Rattle.word_field.specs.Field.{FieldOps}
use Rattle.monomial_order.specs.MonomialOrder.{MonomialOrder}
use Rattle.polynomials.specs.Polynomial.{Polynomial, degree_of, IsCanonical, IsPoly}
use Rattle.polynomials.specs.Ideal.{Congruent}
use Rattle.polynomials.specs.Value.{value}
use Rattle.polynomials.specs.Subalgebra.{Presented, InSubalgebra}
use Rattle.subalgebra_laws.specs.Bases.{IsClosedAt}
use Rattle.subalgebra_laws.specs.Words.{IsSubductionRemainder}
use Rattle.membership.specs.declared.reply.Reply.{Reply}
use Rattle.membership.specs.declared.reply.Reply.TheVariants.{Beyond, Member, No}

-- S is the reduced basis to the degree c, and a the query.
module _ {E : Type 0} (P : Presented E) (c : ℕ) (S : List (Polynomial E)) (a : Polynomial E) where
  -- the degree of a is at most c, or nothing new comes after c
  abbrev pub IsWithin : Type 0
  IsWithin = (degree_of P.order a ≤ c) ⊎ IsClosedAt P c S

  -- a has the degree d above c, and something new comes after c
  pub record IsBeyond (d : ℕ) : Type 0 where
    pub degree : degree_of P.order a ≡ d
    pub above : c < d
    pub not_closed : ¬ IsClosedAt P c S

  -- a has the value of h, modulo the ideal
  pub record HasWitness (h : Polynomial E) : Type 0 where
    pub within : IsWithin
    pub poly : IsPoly P.field (length P.generators) h
    pub value : Congruent P.field P.order.places P.ideal a (value P.field h P.generators)

  -- a is no member of the subalgebra, and r is its remainder
  pub record HasRemainder (r : Polynomial E) : Type 0 where
    pub within : IsWithin
    pub no_member : ¬ InSubalgebra P a
    pub remainder : IsSubductionRemainder P a r
    pub nonzero : r ≢ []

-- what is answered about a
abbrev pub IsAnswer : {F E : Type 0} → Presented E → ℕ → List (Polynomial E) → Polynomial E → Reply F E → Type 0
IsAnswer P c S a (Beyond d) = IsBeyond P c S a d
IsAnswer P c S a (Member h) = HasWitness P c S a h
IsAnswer P c S a (No r) = HasRemainder P c S a r

-- the polynomial of an answer is canonical: a member's in the order of the generators, a remainder in that of the ring
abbrev pub IsCanonicalReply : {F E : Type 0} → FieldOps E → MonomialOrder → MonomialOrder → Reply F E → Type 0
IsCanonicalReply K order by (Beyond d) = Unit {0}
IsCanonicalReply K order by (Member h) = IsCanonical K by h
IsCanonicalReply K order by (No r) = IsCanonical K order r
