-- Lists in which a relation holds between each member and each later one.
use Rattle.std.proofs.Common.{◌≡◌, ◌≢◌, ℕ, zero, suc, sym, subst, List, [], ◌∷◌, ◌++◌, take, drop, get_or, arith, ⊎_elim}
use Rattle.std.specs.Prelude.{Contains, AllPairs}
use Rattle.std.specs.declared.cmp.Ordering.TheVariants.{Less}
use Rattle.monomial_order.specs.MonomialOrder.{IsIncreasing, IsMonomialOrder, MonomialOrder}
use Rattle.monomial_order.specs.laws.Comparing.{increasing_below, increasing_tail, not_below_self}
use Rattle.monomial_order.specs.laws.Lists.{contains_at, contains_here, contains_there}
use Rattle.std.proofs.lemmas.List.Elements.{Contains-append_cases}
use Rattle.toric_ideal.proofs.Members.{contains_take}

module _ {A : Type 0} (R : A → A → Type 0) where
  abbrev pub Pairs : List A → Type 0
  Pairs [] = Unit {0}
  Pairs (x ∷ xs) = ((y : A) → Contains xs y → R x y) × Pairs xs

  pub pairs_from : (xs : List A) → AllPairs R xs → Pairs xs
  pairs_from [] h = tt
  pairs_from (x ∷ xs) h =
      (λ y c. let l = c.1 in subst (R x) c.2 (h 0 (suc c.0) y (omega arith) (omega arith)), pairs_from xs (λ i j d l k. h (suc i) (suc j) d (omega arith) (omega arith)))

  pub pairs_to : (xs : List A) → Pairs xs → AllPairs R xs
  pairs_to [] h i j d l k = absurd (omega arith)
  pairs_to (x ∷ xs) h zero zero d l k = absurd (omega arith)
  pairs_to (x ∷ xs) h zero (suc j) d l k = h.0 (get_or xs j d) (contains_at xs j d (omega arith))
  pairs_to (x ∷ xs) h (suc i) zero d l k = absurd (omega arith)
  pairs_to (x ∷ xs) h (suc i) (suc j) d l k = pairs_to xs h.1 i j d (omega arith) (omega arith)

  pub pairs_append : (xs ys : List A) → Pairs xs → Pairs ys → ((x y : A) → Contains xs x → Contains ys y → R x y) → Pairs (xs ++ ys)
  pairs_append [] ys h k c = k
  pairs_append (x ∷ xs) ys h k c =
      (λ y m. ⊎_elim (λ a. h.0 y a) (λ b. c x y (contains_here x xs) b) (Contains-append_cases xs ys y m), pairs_append xs ys h.1 k (λ a b i j. c a b (contains_there x xs a i) j))

  pub pairs_take : (i : ℕ) (xs : List A) → Pairs xs → Pairs (take i xs)
  pairs_take zero xs h = tt
  pairs_take (suc i) [] h = tt
  pairs_take (suc i) (x ∷ xs) h = (λ y c. h.0 y (contains_take xs i y c), pairs_take i xs h.1)

  pub pairs_drop : (i : ℕ) (xs : List A) → Pairs xs → Pairs (drop i xs)
  pairs_drop zero xs h = h
  pairs_drop (suc i) [] h = tt
  pairs_drop (suc i) (x ∷ xs) h = pairs_drop i xs h.1

-- the members of an increasing list are distinct
pub increasing_distinct : (O : MonomialOrder) → IsMonomialOrder O → (ms : List (List ℕ)) → IsIncreasing O ms → Pairs (λ m n. m ≢ n) ms
increasing_distinct O W [] r = tt
increasing_distinct O W (m ∷ ms) r = (λ n c e. not_below_self O W m (subst (λ x. O.compare m x ≡ Less) (sym e) (increasing_below O W m ms r n c)), increasing_distinct O W ms (increasing_tail O m ms r))
