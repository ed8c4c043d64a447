-- One lead more among those of the last degree.
use Rattle.std.proofs.Common.{◌≤◌, ℕ, subst, List, [], ◌∷◌, ◌++◌, length, drop, ⊎_elim}
use Rattle.std.specs.Prelude.{Contains}
use Rattle.std.proofs.lemmas.List.{drop-append-le}
use Rattle.std.proofs.lemmas.List.Elements.{Contains-append_cases}
use Rattle.monomial_order.specs.Monomial.{Exponents, IsMultiple}
use Rattle.monomial_order.specs.laws.Lists.{contains_cases, contains_none}

-- if it is standard as the others are, all are
pub standard_pushed : (Z leads : List Exponents) (k : ℕ) (m : Exponents) → k ≤ length leads → ¬ IsMultiple Z m → ((x : Exponents) → Contains (drop k leads) x → ¬ IsMultiple Z x) →
    (x : Exponents) → Contains (drop k (leads ++ m ∷ [])) x → ¬ IsMultiple Z x
standard_pushed Z leads k m l n h x c =
    ⊎_elim (λ a. h x a) (λ b. ⊎_elim (λ e. subst (λ y. ¬ IsMultiple Z y) e n) (λ z. absurd (contains_none x z)) (contains_cases m [] x b))
    (Contains-append_cases (drop k leads) (m ∷ []) x (subst (λ ys. Contains ys x) (drop-append-le k leads (m ∷ []) l) c))
