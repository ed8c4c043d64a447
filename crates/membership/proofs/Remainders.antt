-- What is left of a polynomial within reach is its remainder modulo the subalgebra.
use Rattle.std.proofs.Common.{◌≢◌, ℕ, ◌≤◌, List, ⊎_elim, arith}
use Rattle.monomial_order.specs.Monomial.{Exponents}
use Rattle.word_laws.specs.Words.{word_order_of}
use Rattle.polynomials.specs.Polynomial.{Polynomial, coefficient, minus, degree_of, IsCanonical}
use Rattle.polynomials.specs.Subalgebra.{Presented, InSubalgebra, IsDecidedTo, IsPresentation, IsReducedBasis}
use Rattle.polynomials.specs.Subalgebra.{LeadsSubalgebra}
use Rattle.polynomials.specs.laws.Decreasing.{IsDecreasing_IsPoly}
use Rattle.polynomials.specs.laws.Membership.{sub_congruent}
use Rattle.quotient_gb.specs.Quotient.{IsQuotientOf, QuotientState}
use Rattle.subalgebra_laws.specs.Bases.{AreMembers}
use Rattle.subalgebra_laws.specs.Statements.{ForClosedBases, ForMonicMembers, LeadsAreExactly, SumsOfSWordsAreMembers}
use Rattle.subalgebra_laws.specs.Words.{combination_value, letters, IsSubductionRemainder}
use Rattle.witness.specs.declared.tracked.Tracked.{Tracked}
use Rattle.witness.specs.Tracking.{values_of}
use Rattle.subduction.specs.Basis.{BasisState, IsBasisOf}
use Rattle.subduction.specs.declared.subduction.Subduced.{Subduced}
use Rattle.subduction.specs.Subduced.{IsSubduced}
use Rattle.subduction.specs.laws.Elements.{monic_elements}
use Rattle.subduction.specs.laws.Degrees.{degrees_to}
use Rattle.subduction.specs.laws.Rests.{less_rest}
use Rattle.membership.specs.Answer.{IsWithin}

-- what is known of the leads of a reduced basis
abbrev pub LeadsAreKnown : Type 0 → Type 0
LeadsAreKnown E = (P : Presented E) (S : List (Polynomial E)) (c : ℕ) → IsPresentation P → IsReducedBasis P c S →
    LeadsAreExactly P S c

-- quotients decide the ideal to their degrees
abbrev pub QuotientsDecide : Type 0 → Type 0
QuotientsDecide E = (P : Presented E) → IsPresentation P → (q : QuotientState E) → IsQuotientOf P q →
    IsDecidedTo P q.degree

module _ {F E : Type 0} (P : Presented E) (H : IsPresentation P) (b : BasisState F E) (B : IsBasisOf P b) (c : ℕ)
    (R : IsReducedBasis P c (values_of b.elements)) (low : c ≤ b.words.degree) where
  open P use {field as K, order as O}
  open H use {field as F', order as L}

  abbrev S : List (Polynomial E)
  S = values_of b.elements

  members : AreMembers P S
  members s k = (R.elements s k).inside

  decided : QuotientsDecide E → IsDecidedTo P c
  decided law m hm l = law P H b.quotient B.quotient m hm (let d = B.degree in omega arith)

  module _ (t : Tracked F E) (k : IsCanonical K O t.value) (r : Subduced F E) (h : IsSubduced P b t r) where
    -- the sum of words is a member
    inside : ForMonicMembers E SumsOfSWordsAreMembers → InSubalgebra P (minus K t.value r.rest.value)
    inside law =
        sub_congruent P H (combination_value P S r.word_sum) (minus K t.value r.rest.value)
        (law P S H (monic_elements P H b B) members r.word_sum
        (IsDecreasing_IsPoly K (word_order_of (letters P S)) r.word_sum h.parts.sum.decreasing) h.parts.sum.words)
        (less_rest P H b t r h)

    -- what is left leads no member
    no_lead : LeadsAreKnown E → ForClosedBases E (λ P S _ c. LeadsAreExactly P S c) → QuotientsDecide E →
        IsWithin P c S t.value →
        (m : Exponents) → coefficient K r.rest.value m ≢ K.zero → LeadsSubalgebra P m → ⊥
    no_lead leads all decide within m n l =
        let generated = (h.parts.reduced m n).1 in
        ⊎_elim
        (λ small.
        let d = (h.degrees (degree_of O t.value) (degrees_to P H t.value k)).0 m n in
        generated ((leads P S c H R m (omega arith)).0 l).1)
        (λ closed. generated ((all P S c (O.degree m) H (decided decide) R closed m (omega arith)).0 l).1) within

    pub is_remainder : ForMonicMembers E SumsOfSWordsAreMembers → LeadsAreKnown E →
        ForClosedBases E (λ P S _ c. LeadsAreExactly P S c) → QuotientsDecide E →
        IsWithin P c S t.value → IsSubductionRemainder P t.value r.rest.value
    is_remainder words leads all decide within = record {
      poly = h.parts.poly;
      inside = inside words;
      reduced = λ m n. ((h.parts.reduced m n).0, no_lead leads all decide within m n);
    }
