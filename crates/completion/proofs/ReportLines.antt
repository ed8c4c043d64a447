-- The lines of a report, one after the other.
use Rattle.std.proofs.Common.{◌≡◌, ◌≢◌, ℕ, suc, ◌+◌, ◌<◌, List, [], ◌∷◌, ◌++◌, length, get_or, drop, sym, ap, ◌∙◌, add-one, append_assoc, drop-cons}
use Rattle.poly_core.specs.declared.place_names.Names.{Names}
use Rattle.polynomials.specs.Polynomial.{Polynomial, coefficient}
use Rattle.polynomials.specs.Subalgebra.{Presented}
use Rattle.polynomials.specs.laws.Coefficients.{nothing_at}
use Rattle.witness.specs.declared.tracked.Tracked.{Tracked}
use Rattle.witness.specs.Tracking.{values_of}
use Rattle.word_values.specs.Values.{IsHomogeneousElement}
use Rattle.completion.specs.Report.{element_line, element_lines}

-- an element of a basis is not zero
pub element_nonzero : {E : Type 0} (P : Presented E) (s : Polynomial E) → IsHomogeneousElement P s → s ≢ []
element_nonzero P s h e =
    h.homogeneous.some.1 (ap (λ p. coefficient P.field p h.homogeneous.some.0) e ∙ sym (nothing_at P.field h.homogeneous.some.0))

module _ {F E : Type 0} (P : Presented E) (names : Names) where
  -- the lines from an element on are its line and those after it
  pub next_line : (basis : List (Tracked F E)) (i : ℕ) (t : Tracked F E) → i < length basis → t ≡ get_or basis i t →
      element_lines P names (i + 1) (values_of (drop i basis)) ≡
      element_line P names (i + 1) t.value ++ element_lines P names ((i + 1) + 1) (values_of (drop (i + 1) basis))
  next_line basis i t l at =
      let split : drop i basis ≡ get_or basis i t ∷ drop (suc i) basis = drop-cons basis i t l in
      let step : drop i basis ≡ t ∷ drop (i + 1) basis =
      split ∙ (ap (λ x. x ∷ drop (suc i) basis) (sym at) ∙ ap (λ (n : ℕ). t ∷ drop n basis) (sym (add-one i))) in
      ap (λ ts. element_lines P names (i + 1) (values_of ts)) step

  -- what is written and the lines that follow
  pub line_written : (basis : List (Tracked F E)) (i : ℕ) (t : Tracked F E) → i < length basis → t ≡ get_or basis i t →
      (old new all : List ℕ) → new ≡ old ++ element_line P names (i + 1) t.value →
      old ++ element_lines P names (i + 1) (values_of (drop i basis)) ≡ all →
      new ++ element_lines P names ((i + 1) + 1) (values_of (drop (i + 1) basis)) ≡ all
  line_written basis i t l at old new all e h =
      ap (λ xs. xs ++ element_lines P names ((i + 1) + 1) (values_of (drop (i + 1) basis))) e ∙
      (append_assoc old (element_line P names (i + 1) t.value) (element_lines P names ((i + 1) + 1) (values_of (drop (i + 1) basis))) ∙
      (ap (λ xs. old ++ xs) (sym (next_line basis i t l at)) ∙ h))
