-- A list with a member inserted at an index, or with a member replaced.
use Rattle.std.proofs.Common.{◌≡◌, ℕ, zero, suc, ◌<◌, ◌≤◌, subst, List, [], ◌∷◌, length, arith, ◌⊎◌, inl, inr, ⊎_elim, get_or, slice_set}
use Rattle.monomial_order.specs.Monomial.{Exponents}
use Rattle.std.specs.Prelude.{Contains, map}
use Rattle.std.specs.List.{insert}
use Rattle.std.specs.declared.cmp.Ordering.TheVariants.{Less}
use Rattle.monomial_order.specs.laws.Lists.{contains_here, contains_there, contains_cases}
use Rattle.polynomials.specs.Subalgebra.{Presented}
use Rattle.monomial_order.specs.MonomialOrder.{IsIncreasing}
use Rattle.std.proofs.lemmas.List.Sorted.{Contains-permutation, IsPermutation-insert, IsPermutation-sym}
use Rattle.std.proofs.lemmas.List.{map-append, take-map, drop-map}

module _ {A : Type 0} (xs : List A) (k : ℕ) (x : A) where
  pub insert_here : Contains (insert xs k x) x
  insert_here = Contains-permutation (x ∷ xs) (insert xs k x) x (IsPermutation-insert xs k x) (contains_here x xs)

  pub insert_there : (y : A) → Contains xs y → Contains (insert xs k x) y
  insert_there y h = Contains-permutation (x ∷ xs) (insert xs k x) y (IsPermutation-insert xs k x) (contains_there x xs y h)

  pub insert_cases : (y : A) → Contains (insert xs k x) y → (x ≡ y) ⊎ Contains xs y
  insert_cases y h = contains_cases x xs y (Contains-permutation (insert xs k x) (x ∷ xs) y (IsPermutation-sym (x ∷ xs) (insert xs k x) (IsPermutation-insert xs k x)) h)

module _ {A : Type 0} where
  pub set_cases : (xs : List A) (i : ℕ) (x y : A) → Contains (slice_set xs i x) y → (x ≡ y) ⊎ Contains xs y
  set_cases [] i x y h = inr h
  set_cases (z ∷ xs) zero x y h = ⊎_elim (λ e. inl e) (λ k. inr (contains_there z xs y k)) (contains_cases x xs y h)
  set_cases (z ∷ xs) (suc i) x y h = ⊎_elim (λ e. inr (subst (Contains (z ∷ xs)) e (contains_here z xs)))
      (λ k. ⊎_elim (λ e. inl e) (λ j. inr (contains_there z xs y j)) (set_cases xs i x y k)) (contains_cases z (slice_set xs i x) y h)

pub map_insert : {A B : Type 0} (f : A → B) (xs : List A) (k : ℕ) (x : A) → map f (insert xs k x) ≡ insert (map f xs) k (f x)
map_insert f xs k x = simp (map-append, take-map, drop-map)

module _ {E : Type 0} (P : Presented E) where
  -- an increasing list with a member put between the smaller and the greater ones
  pub increasing_insert : (ms : List Exponents) (k : ℕ) (m : Exponents) → IsIncreasing P.order ms → k ≤ length ms →
      ((i : ℕ) → i < k → P.order.compare (get_or ms i []) m ≡ Less) → (k < length ms → P.order.compare m (get_or ms k []) ≡ Less) → IsIncreasing P.order (insert ms k m)
  increasing_insert [] zero m h l before after = tt
  increasing_insert (n ∷ ms) zero m h l before after = (after (omega arith), h)
  increasing_insert [] (suc k) m h l before after = tt
  increasing_insert (n ∷ []) (suc zero) m h l before after = (before 0 (omega arith), tt)
  increasing_insert (n ∷ []) (suc (suc k)) m h l before after = absurd (omega arith)
  increasing_insert (n ∷ (n' ∷ ms)) (suc zero) m h l before after = (before 0 (omega arith), (after (omega arith), h.1))
  increasing_insert (n ∷ (n' ∷ ms)) (suc (suc k)) m h l before after =
      (h.0, increasing_insert (n' ∷ ms) (suc k) m h.1 (omega arith) (λ i q. before (suc i) (omega arith)) (λ q. after (omega arith)))
