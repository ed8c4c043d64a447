-- Completions whose elements stay.
use Rattle.std.proofs.Common.{ℕ, sym, ◌∙◌, subst, List}
use Rattle.poly_core.specs.declared.presentations.Presentation.{Presentation}
use Rattle.witness.specs.declared.tracked.Tracked.{Tracked}
use Rattle.completion.specs.Completion.{CompletionState, IsUnchanged}

-- two calls that change nothing
pub unchanged_twice : {F O E : Type 0} (s t v : CompletionState F O E) → IsUnchanged s t → IsUnchanged t v → IsUnchanged s v
unchanged_twice s t v h k = record {
  presentation = k.presentation ∙ h.presentation;
  degree = k.degree ∙ h.degree;
  read = k.read ∙ h.read;
  begun = k.begun ∙ h.begun;
  elements = k.elements ∙ h.elements;
  relations = k.relations ∙ h.relations;
  pending = k.pending ∙ h.pending;
}

module _ {F O E : Type 0} (s t : CompletionState F O E) (u : IsUnchanged s t)
    (Q : Presentation F O E → ℕ → List (Tracked F E) → Type 0) where
  -- what holds before a call that changes nothing holds after it
  pub after : Q s.presentation s.degree s.basis.elements → Q t.presentation t.degree t.basis.elements
  after h =
      subst (λ ts. Q t.presentation t.degree ts) (sym u.elements)
      (subst (λ d. Q t.presentation d s.basis.elements) (sym u.degree)
      (subst (λ p. Q p s.degree s.basis.elements) (sym u.presentation) h))

  -- and the other way round
  pub before : Q t.presentation t.degree t.basis.elements → Q s.presentation s.degree s.basis.elements
  before h =
      subst (λ ts. Q s.presentation s.degree ts) u.elements
      (subst (λ d. Q s.presentation d t.basis.elements) u.degree
      (subst (λ p. Q p t.degree t.basis.elements) u.presentation h))
