-- The parts of a line.
use Rattle.std.proofs.Common.{◌≡◌, ℕ, ◌-◌, ◌<◌, ◌≤◌, Bool, not, eqb, List, [], ◌∷◌, length, take, drop, get_or, refl, ap, ◌∙◌}
use Rattle.polynomial_text.specs.Bytes.{is_sign, front, behind}
use Rattle.polynomial_text.specs.PolyLine.{signed_parts}
use Rattle.polynomial_text.specs.LineReading.{factor_parts}
use Rattle.polynomial_text.specs.laws.Fronts.{nothing_left, first_and_rest, parts_behind, parts_split, terms_behind, terms_split}

-- ---- factors

pub factors_last : (text rest : List ℕ) → rest ≡ behind (λ b. not (eqb b 42)) text → length rest < 1 → factor_parts text ≡ front (λ b. not (eqb b 42)) text ∷ []
factors_last text rest is none = rw (parts_split (λ b. eqb b 42) text, ← is, nothing_left rest none) refl

pub factors_next : (text rest : List ℕ) → rest ≡ behind (λ b. not (eqb b 42)) text → 1 ≤ length rest → factor_parts text ≡ front (λ b. not (eqb b 42)) text ∷ factor_parts (take (length rest - 1) (drop 1 rest))
factors_next text rest is some =
    parts_split (λ b. eqb b 42) text ∙ ap (λ r. front (λ b. not (eqb b 42)) text ∷ r) (rw (← is) (ap (parts_behind (λ b. eqb b 42)) (first_and_rest rest some)))

-- ---- terms

pub terms_last : (text rest : List ℕ) → rest ≡ behind (λ b. not (is_sign b)) text → length rest < 1 → (minus : Bool) → signed_parts minus text ≡ (minus, front (λ b. not (is_sign b)) text) ∷ []
terms_last text rest is none minus = rw (terms_split minus text, ← is, nothing_left rest none) refl

pub terms_next : (text rest : List ℕ) → rest ≡ behind (λ b. not (is_sign b)) text → 1 ≤ length rest → (minus : Bool) →
    signed_parts minus text ≡ (minus, front (λ b. not (is_sign b)) text) ∷ signed_parts (eqb (get_or rest 0 0) 45) (take (length rest - 1) (drop 1 rest))
terms_next text rest is some minus =
    terms_split minus text ∙ ap (λ r. (minus, front (λ b. not (is_sign b)) text) ∷ r) (rw (← is) (ap terms_behind (first_and_rest rest some)))
