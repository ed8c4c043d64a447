-- Values of the members of a list, by index.
use Rattle.std.proofs.Common.{◌≡◌, ◌≢◌, ℕ, zero, suc, ◌<◌, refl, sym, ◌∙◌, ap, subst, List, [], ◌∷◌, ◌++◌, length, arith, get_or, set, ⊎_elim}
use Rattle.std.specs.Prelude.{map}
use Rattle.monomial_order.specs.laws.Comparing.{numbers_or_not}

module _ {A B : Type 0} (f : A → B) (d : B) where
  -- a member at the end with the value of those past the end
  pub at_longer : (xs : List A) (v : A) (k : ℕ) → f v ≡ d → get_or (map f (xs ++ v ∷ [])) k d ≡ get_or (map f xs) k d
  at_longer [] v zero e = e
  at_longer [] v (suc k) e = refl
  at_longer (x ∷ xs) v zero e = refl
  at_longer (x ∷ xs) v (suc k) e = at_longer xs v k e

  pub at_set_same : (xs : List A) (v : A) (k : ℕ) → k < length xs → get_or (map f (set xs k v)) k d ≡ f v
  at_set_same [] v k l = absurd (omega arith)
  at_set_same (x ∷ xs) v zero l = refl
  at_set_same (x ∷ xs) v (suc k) l = at_set_same xs v k (omega arith)

  pub at_set_other : (xs : List A) (v : A) (k i : ℕ) → i ≢ k → get_or (map f (set xs k v)) i d ≡ get_or (map f xs) i d
  at_set_other [] v k i n = refl
  at_set_other (x ∷ xs) v zero zero n = absurd (n refl)
  at_set_other (x ∷ xs) v zero (suc i) n = refl
  at_set_other (x ∷ xs) v (suc k) zero n = refl
  at_set_other (x ∷ xs) v (suc k) (suc i) n = at_set_other xs v k i (λ e. n (ap suc e))

  pub at_map : (xs : List A) (k : ℕ) (e : A) → k < length xs → get_or (map f xs) k d ≡ f (get_or xs k e)
  at_map [] k e l = absurd (omega arith)
  at_map (x ∷ xs) zero e l = refl
  at_map (x ∷ xs) (suc k) e l = at_map xs k e (omega arith)

  pub at_read : (xs : List A) (k : ℕ) (s : A) → k < length xs → s ≡ get_or xs k s → get_or (map f xs) k d ≡ f s
  at_read xs k s l e = at_map xs k s l ∙ ap f (sym e)

  -- a member is replaced by one with the same value
  pub map_same : (xs : List A) (k : ℕ) (s v : A) → k < length xs → s ≡ get_or xs k s → f v ≡ f s → map f (set xs k v) ≡ map f xs
  map_same [] k s v l e h = absurd (omega arith)
  map_same (x ∷ xs) zero s v l e h = ap (λ y. y ∷ map f xs) (h ∙ ap f e)
  map_same (x ∷ xs) (suc k) s v l e h = ap (λ ys. f x ∷ ys) (map_same xs k s v (omega arith) e h)

  -- or by one with a related value
  pub set_related : (Rel : B → B → Type 0) → ((b : B) → Rel b b) → (xs : List A) (key : ℕ) (s v : A) → key < length xs → s ≡ get_or xs key s → Rel (f s) (f v) →
      (k : ℕ) → Rel (get_or (map f xs) k d) (get_or (map f (set xs key v)) k d)
  set_related Rel same xs key s v l e h k =
      ⊎_elim
      (λ q. subst (λ i. Rel (get_or (map f xs) i d) (get_or (map f (set xs key v)) i d)) (sym q)
      (subst (λ b. Rel b (get_or (map f (set xs key v)) key d)) (sym (at_read xs key s l e))
      (subst (Rel (f s)) (sym (at_set_same xs v key l)) h)))
      (λ q. subst (Rel (get_or (map f xs) k d)) (sym (at_set_other xs v key k q)) (same (get_or (map f xs) k d)))
      (numbers_or_not k key)
