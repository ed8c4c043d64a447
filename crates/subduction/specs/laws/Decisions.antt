-- What a basis decides: its quotient decides the ideal, and the zeros of its words which words are reducible.
use Rattle.std.proofs.Common.{ℕ, sym, subst, List, arith}
use Rattle.monomial_order.specs.Monomial.{Exponents}
use Rattle.monomial_order.specs.laws.Comparing.{divisor_degree}
use Rattle.polynomials.specs.Polynomial.{Polynomial}
use Rattle.polynomials.specs.Subalgebra.{AreZerosTo, IsDecidedTo, IsPresentation, Presented}
use Rattle.polynomials.specs.laws.NormalForm.{lead_is_monomial, zeros_decide}
use Rattle.quotient_gb.specs.IdealBasis.{AreIdealLeads}
use Rattle.subalgebra_laws.specs.Statements.{ForMonicElements, ZerosRepresentTheIdeal}
use Rattle.witness.specs.Tracking.{values_of}
use Rattle.subduction.specs.Basis.{BasisState, IsBasisOf}
use Rattle.subduction.specs.laws.Elements.{monic_elements}

-- multiples of zeros of the ideal represent it in words over S
abbrev pub ZerosRepresent : {E : Type 0} → Presented E → List (Polynomial E) → Type 0
ZerosRepresent P S = (c : ℕ) (zeros : List Exponents) → AreZerosTo P c zeros → ZerosRepresentTheIdeal P S c zeros

module _ {F E : Type 0} (P : Presented E) (H : IsPresentation P) (b : BasisState F E) (B : IsBasisOf P b) where
  open H use {order as L}

  leads_are : AreIdealLeads P b.quotient.degree b.quotient.leads
  leads_are = subst (AreIdealLeads P b.quotient.degree) (sym B.quotient.leads) B.quotient.basis.leads

  -- the leads of the quotient are zeros to its degree
  pub leads_are_zeros : AreZerosTo P b.quotient.degree b.quotient.leads
  leads_are_zeros = record { lead = leads_are.leads; divide = leads_are.divides }

  -- the zeros of the words are zeros to their degree
  pub words_have_zeros : AreZerosTo P b.words.degree b.words.zeros
  words_have_zeros = record {
    lead = λ n k. leads_are.leads n ((B.zeros n).0 k).0;
    divide = λ m h l.
        let d = B.degree in
        let w = leads_are.divides m h (omega arith) in
        let low = divisor_degree P.order L w.0 m (lead_is_monomial P H w.0 (leads_are.leads w.0 w.1)).trimmed (lead_is_monomial P H m h).trimmed w.2 in
        (w.0, (B.zeros w.0).1 (w.1, omega arith), w.2);
  }

  -- so the ideal is decided to these degrees
  pub quotient_decides : IsDecidedTo P b.quotient.degree
  quotient_decides = zeros_decide P H b.quotient.degree b.quotient.leads leads_are_zeros

  pub words_decide : IsDecidedTo P b.words.degree
  words_decide = zeros_decide P H b.words.degree b.words.zeros words_have_zeros

  -- and the zeros of the words say which words over the elements are reducible
  pub zeros_represent : ForMonicElements E ZerosRepresent → ZerosRepresentTheIdeal P (values_of b.elements) b.words.degree b.words.zeros
  zeros_represent law = law P (values_of b.elements) H (monic_elements P H b B) b.words.degree b.words.zeros words_have_zeros
