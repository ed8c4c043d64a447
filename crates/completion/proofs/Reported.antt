-- The report on the elements of a completion.
use Rattle.std.proofs.Common.{◌≡◌, ◌∙◌, ap, List, ℕ, Bool, true, false}
use Rattle.word_field.specs.Field.{FieldOps}
use Rattle.monomial_order.specs.MonomialOrder.{MonomialOrder}
use Rattle.poly_core.specs.Presentation.{presented}
use Rattle.subalgebra_laws.specs.Bases.{IsClosedAt}
use Rattle.witness.specs.Tracking.{values_of}
use Rattle.completion.specs.Closed.{HasLater}
use Rattle.completion.specs.Completion.{elements_of, CompletionState, IsCompletion, IsUnchanged}
use Rattle.completion.specs.Report.{mark_text, report_text, IsReport}
use Rattle.completion.specs.laws.Marks.{marked}
use Rattle.completion.proofs.ClosedBases.{not_closed}

module _ {F O E : Type 0} (ops : F → FieldOps E) (order : O → MonomialOrder) (s t : CompletionState F O E) (u : IsUnchanged s t) where
  -- the text is the same by the state before
  text_stays : (mark text : List ℕ) →
      text ≡ report_text (presented ops order t.presentation) t.presentation.names t.degree (elements_of t) mark →
      text ≡ report_text (presented ops order s.presentation) s.presentation.names s.degree (elements_of s) mark
  text_stays mark text h =
      h ∙ (ap (λ p. report_text (presented ops order p) p.names t.degree (elements_of t) mark) u.presentation ∙
      (ap (λ d. report_text (presented ops order s.presentation) s.presentation.names d (elements_of t) mark) u.degree ∙
      ap (λ ts. report_text (presented ops order s.presentation) s.presentation.names s.degree (values_of ts) mark) u.elements))

  pub reported : IsCompletion ops order s → s.begun ≡ false → (b : Bool) →
      (b ≡ true → IsClosedAt (presented ops order s.presentation) s.degree (elements_of s)) →
      (b ≡ false → HasLater (presented ops order s.presentation) s.degree (elements_of s)) → (text : List ℕ) →
      text ≡ report_text (presented ops order t.presentation) t.presentation.names t.degree (elements_of t) (mark_text b) →
      IsReport (presented ops order s.presentation) s.presentation.names s.degree text
  reported K begun b known later text h = record {
    basis = elements_of s;
    reduced = (K.standing.at_degree begun).reduced;
    mark = mark_text b;
    has_mark = marked (presented ops order s.presentation) s.degree (elements_of s) b
        (not_closed (presented ops order s.presentation) (elements_of s) s.degree) known later;
    is = text_stays (mark_text b) text h;
  }
