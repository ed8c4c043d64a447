-- What is printed of a completion at a bound.
use Rattle.std.proofs.Common.{◌≡◌, ℕ, Bool, true, false, List, length, sym, ap, subst, ◌∙◌}
use Rattle.std.proofs.lemmas.List.{length-map}
use Rattle.std.specs.Prelude.{All}
use Rattle.word_field.specs.Field.{FieldOps}
use Rattle.monomial_order.specs.MonomialOrder.{MonomialOrder}
use Rattle.poly_core.specs.declared.presentations.Presentation.{Presentation}
use Rattle.poly_core.specs.Presentation.{presented}
use Rattle.polynomials.specs.Polynomial.{Polynomial, IsCanonical}
use Rattle.polynomials.specs.Subalgebra.{Presented, IsReducedBasis}
use Rattle.polynomial_text.specs.Degrees.{IsLow}
use Rattle.subalgebra_laws.specs.Bases.{IsClosedAt}
use Rattle.witness.specs.declared.tracked.Tracked.{Tracked}
use Rattle.completion.specs.Closed.{HasLater}
use Rattle.completion.specs.Completion.{elements_of, CompletionState, IsAtDegree}
use Rattle.completion.specs.laws.Marks.{marked}
use Rattle.completion.specs.Report.{mark_text, HasMark, IsReport}
use Rattle.outputs.specs.Answers.{AreAnswers, IsAnswerText}
use Rattle.outputs.specs.Completing.{IsCompletedTo}
use Rattle.completion.specs.LetterNames.{element_names}
use Rattle.completion.specs.RelationLines.{relations_text}
use Rattle.outputs.specs.RelationsText.{IsRelationsText}
use Rattle.outputs.specs.Summary.{trial_text, IsSummary}

module _ {F O E : Type 0} (ops : F → FieldOps E) (order : O → MonomialOrder) (p : Presentation F O E) (bound : ℕ) (c : CompletionState F O E)
    (h : IsCompletedTo ops order p bound c) where
  abbrev here : Presented E
  here = presented ops order c.presentation

  at_degree : IsAtDegree here c
  at_degree = h.completion.standing.at_degree h.not_begun

  -- what is asked of queries is asked by the presentation of the completion
  pub queries_canonical : (queries : List (Polynomial E)) → All (IsCanonical (ops p.field) (order p.order)) queries →
      All (IsCanonical here.field here.order) queries
  queries_canonical queries k = subst (λ q. All (IsCanonical (ops q.field) (order q.order)) queries) (sym h.presentation) k

  pub queries_low : (queries : List (Polynomial E)) → All (IsLow (order p.order)) queries → All (IsLow here.order) queries
  queries_low queries k = subst (λ q. All (IsLow (order q.order)) queries) (sym h.presentation) k

  pub answers_printed : (queries : List (Polynomial E)) (text : List ℕ) →
      AreAnswers ops order c.presentation c.degree (elements_of c) queries text → IsAnswerText ops order p bound queries text
  answers_printed queries text k =
      subst (λ q. IsAnswerText ops order q bound queries text) h.presentation
      (subst (λ d. IsAnswerText ops order c.presentation d queries text) h.degree
      (record { basis = elements_of c; reduced = at_degree.reduced; answers = k }))

  pub relations_printed : (text : List ℕ) → text ≡ relations_text here.field (element_names here.order.places) c.relations →
      IsRelationsText F (presented ops order p) bound text
  relations_printed text e =
      subst (λ q. IsRelationsText F (presented ops order q) bound text) h.presentation
      (subst (λ d. IsRelationsText F here d text) h.degree
      (record { basis = elements_of c; reduced = at_degree.reduced; relations = c.relations; exact = at_degree.relations; is = e }))

  pub report_printed : (text : List ℕ) → IsReport here c.presentation.names c.degree text → IsReport (presented ops order p) p.names bound text
  report_printed text k =
      subst (λ q. IsReport (presented ops order q) q.names bound text) h.presentation
      (subst (λ d. IsReport here c.presentation.names d text) h.degree k)

  pub summary_printed : (number : ℕ) (ts : List (Tracked F E)) (b : Bool) (text : List ℕ) → ts ≡ c.basis.elements →
      (HasLater here c.degree (elements_of c) → IsClosedAt here c.degree (elements_of c) → ⊥) →
      (b ≡ true → IsClosedAt here c.degree (elements_of c)) → (b ≡ false → HasLater here c.degree (elements_of c)) →
      text ≡ trial_text number bound (length ts) (mark_text b) → IsSummary (presented ops order p) number bound text
  summary_printed number ts b text same later closed further e =
      let count : length ts ≡ length (elements_of c) =
      ap (λ us. length us) same ∙ sym (length-map c.basis.elements (λ (t : Tracked F E). t.value)) in
      subst (λ q. IsSummary (presented ops order q) number bound text) h.presentation
      (record {
        basis = elements_of c;
        reduced = subst (λ d. IsReducedBasis here d (elements_of c)) h.degree at_degree.reduced;
        mark = mark_text b;
        has_mark = subst (λ d. HasMark here d (elements_of c) (mark_text b)) h.degree (marked here c.degree (elements_of c) b later closed further);
        is = e ∙ ap (λ n. trial_text number bound n (mark_text b)) count;
      })
