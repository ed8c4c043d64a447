-- The mark that belongs to what is found.
use Rattle.std.proofs.Common.{◌≡◌, ℕ, Bool, true, false, List, refl, inl, inr}
use Rattle.polynomials.specs.Polynomial.{Polynomial}
use Rattle.polynomials.specs.Subalgebra.{Presented}
use Rattle.subalgebra_laws.specs.Bases.{IsClosedAt}
use Rattle.completion.specs.Closed.{HasLater}
use Rattle.completion.specs.Report.{mark_text, HasMark}

pub marked : {E : Type 0} (P : Presented E) (c : ℕ) (S : List (Polynomial E)) (b : Bool) → (HasLater P c S → IsClosedAt P c S → ⊥) →
    (b ≡ true → IsClosedAt P c S) → (b ≡ false → HasLater P c S) → HasMark P c S (mark_text b)
marked P c S true later closed further = inl (closed refl, refl)
marked P c S false later closed further = inr (later (further refl), refl)
