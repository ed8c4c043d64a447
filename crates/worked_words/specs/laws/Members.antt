-- Lists with one member more.
use Rattle.std.proofs.Common.{◌≡◌, subst, List, ◌∷◌, ⊎_elim}
use Rattle.std.specs.Prelude.{Contains}
use Rattle.monomial_order.specs.laws.Lists.{contains_cases}

-- what holds of the first member and of the others holds of each
pub each_member : {A : Type 0} (P : A → Type 0) (all : List A) (x : A) (xs : List A) → all ≡ x ∷ xs →
    P x → ((y : A) → Contains xs y → P y) → (y : A) → Contains all y → P y
each_member P all x xs e p h y i =
    ⊎_elim (λ q. subst P q p) (h y) (contains_cases x xs y (subst (λ l. Contains l y) e i))
