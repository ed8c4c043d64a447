-- Sums of terms times members of a list, and standard representations.
use Rattle.std.specs.Prelude.{◌≡◌, ◌⊎◌, List, [], ◌∷◌, ◌++◌, Contains}
use Rattle.std.specs.declared.cmp.Ordering.TheVariants.{Less}
use Rattle.word_field.specs.Field.{FieldOps}
use Rattle.monomial_order.specs.declared.terms.Term.{Term}
use Rattle.monomial_order.specs.Monomial.{product, Divides, Exponents}
use Rattle.monomial_order.specs.MonomialOrder.{MonomialOrder}
use Rattle.polynomials.specs.Polynomial.{Polynomial, Same, scaled, IsTerm, IsLead, lead_monomial}

-- m is at most M, and m is below M
abbrev pub AtMost : MonomialOrder → Exponents → Exponents → Type 0
AtMost O M m = (m ≡ M) ⊎ (O.compare m M ≡ Less)

abbrev pub Under : MonomialOrder → Exponents → Exponents → Type 0
Under O M m = O.compare m M ≡ Less

-- the lead of a member of G divides m
abbrev pub HasLeadDivisor : {E : Type 0} → List (Polynomial E) → Exponents → Type 0
HasLeadDivisor {E} G m = (g : Polynomial E) × Contains G g × Divides (lead_monomial g) m

-- a term, and the polynomial that it multiplies
pub record Step (E : Type 0) : Type 0 where
  pub term : Term E
  pub of : Polynomial E

module _ {E : Type 0} (K : FieldOps E) where
  abbrev pub sum_of_steps : List (Step E) → Polynomial E
  sum_of_steps [] = []
  sum_of_steps (s ∷ ss) = scaled K s.term s.of ++ sum_of_steps ss

  module _ (O : MonomialOrder) (G : List (Polynomial E)) where
    -- each of these is a term times a member of G whose lead, times the term's monomial, has B
    abbrev pub AreSteps : (Exponents → Type 0) → List (Step E) → Type 0
    AreSteps B [] = Unit {0}
    AreSteps B (s ∷ ss) =
        IsTerm K O.places s.term × Contains G s.of × B (product s.term.at (lead_monomial s.of)) × AreSteps B ss

    -- a is a sum of terms times members of G, and each lead of such a product has B
    pub record Combines (B : Exponents → Type 0) (a : Polynomial E) : Type 0 where
      pub steps : List (Step E)
      pub are : AreSteps B steps
      pub sums : Same K a (sum_of_steps steps)

    -- a is zero, or a sum of terms times members of G, each of a lead that is at most the lead of a
    abbrev pub HasStandardRepresentation : Polynomial E → Type 0
    HasStandardRepresentation a = (M : Exponents) → IsLead K O a M → Combines (AtMost O M) a
