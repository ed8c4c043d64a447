-- A list in two parts: smaller degrees, and then others.
use Rattle.std.proofs.Common.{◌≡◌, ℕ, ◌+◌, ◌-◌, ◌≤◌, ◌<◌, ◌++◌, sym, ◌∙◌, ap, subst, List, length, length-append, get_or, arith, ⊎_elim}
use Rattle.std.specs.Prelude.{All}
use Rattle.std.proofs.lemmas.List.{get_or_append_left, get_or-append-add}
use Rattle.monomial_order.specs.Monomial.{Exponents}
use Rattle.monomial_order.specs.laws.Comparing.{le_or_not}

module _ (f : Exponents → ℕ) (d : ℕ) (lower last : List Exponents) (less : All (λ m. f m < d) lower) (same : All (λ m. d ≤ f m) last) where
  -- a member of smaller degree is in the first part
  pub in_lower : (j : ℕ) (m : Exponents) → j < length (lower ++ last) → f (get_or (lower ++ last) j m) < d → j < length lower
  in_lower j m l h = ⊎_elim (λ a. omega arith)
      (λ n.
      let a = length-append lower last in
      let k : ℕ = j - length lower in
      let e : length lower + k ≡ j = omega arith in
      let q = same k m (omega arith) in
      let r = ap f (ap (λ i. get_or (lower ++ last) i m) (sym e) ∙ get_or-append-add lower last k m) in absurd (omega arith))
      (le_or_not (j + 1) (length lower))

  -- and another one is not
  pub not_in_lower : (j : ℕ) (m : Exponents) → (f (get_or (lower ++ last) j m) < d → ⊥) → length lower ≤ j
  not_in_lower j m n = ⊎_elim
      (λ a. absurd (n (subst (λ x. f x < d) (sym (get_or_append_left lower last m j (omega arith))) (less j m (omega arith)))))
      (λ b. omega arith)
      (le_or_not (j + 1) (length lower))
