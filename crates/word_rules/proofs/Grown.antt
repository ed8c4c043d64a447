-- Buckets of which one gets an index more.
use Rattle.std.proofs.Common.{◌≡◌, ℕ, ◌<◌, sym, subst, List, [], ◌∷◌, ◌++◌, length, get_or, set, Global}
use Rattle.std.specs.Prelude.{Contains, Vec, map}
use Rattle.monomial_order.specs.laws.Lists.{contains_here, contains_left, contains_right}
use Rattle.word_rules.specs.declared.buckets.Buckets.{Buckets}
use Rattle.word_rules.proofs.Listing.{at_set_same, set_related}

-- each member of one list is one of the other
abbrev pub HasAll : List ℕ → List ℕ → Type 0
HasAll xs ys = (i : ℕ) → Contains xs i → Contains ys i

-- the same of two lists of lists
abbrev pub HasAllAt : List (List ℕ) → List (List ℕ) → Type 0
HasAllAt xs ys = (b : ℕ) → HasAll (get_or xs b []) (get_or ys b [])

abbrev pub items_of : Vec ℕ Global → List ℕ
items_of v = v.items

abbrev pub lists_of : Buckets → List (List ℕ)
lists_of b = map items_of b.lists.items

module _ (xs : List (Vec ℕ Global)) (key : ℕ) (s v : Vec ℕ Global) (l : key < length xs) (e : s ≡ get_or xs key s) where
  pub bucket_kept : HasAll s.items v.items → (k : ℕ) → HasAll (get_or (map items_of xs) k []) (get_or (map items_of (set xs key v)) k [])
  bucket_kept h = set_related items_of [] HasAll (λ b i k. k) xs key s v l e h

  pub bucket_same : v.items ≡ s.items → (k : ℕ) → HasAll (get_or (map items_of xs) k []) (get_or (map items_of (set xs key v)) k [])
  bucket_same h = bucket_kept (subst (HasAll s.items) (sym h) (λ i k. k))

  module _ (index : ℕ) (h : v.items ≡ s.items ++ index ∷ []) where
    pub bucket_grown : (k : ℕ) → HasAll (get_or (map items_of xs) k []) (get_or (map items_of (set xs key v)) k [])
    bucket_grown = bucket_kept (subst (HasAll s.items) (sym h) (λ i k. contains_left s.items (index ∷ []) i k))

    pub bucket_has : Contains (get_or (map items_of (set xs key v)) key []) index
    bucket_has =
        subst (λ ys. Contains ys index) (sym (at_set_same items_of [] xs v key l))
        (subst (λ ys. Contains ys index) (sym h) (contains_right s.items (index ∷ []) index (contains_here index [])))

module _ (xs : List Buckets) (a : ℕ) (s v : Buckets) (l : a < length xs) (e : s ≡ get_or xs a s) where
  pub row_kept : HasAllAt (lists_of s) (lists_of v) → (k : ℕ) → HasAllAt (get_or (map lists_of xs) k []) (get_or (map lists_of (set xs a v)) k [])
  row_kept h = set_related lists_of [] HasAllAt (λ b c i k. k) xs a s v l e h

  pub row_has : (b index : ℕ) → Contains (get_or (lists_of v) b []) index → Contains (get_or (get_or (map lists_of (set xs a v)) a []) b []) index
  row_has b index h = subst (λ r. Contains (get_or r b []) index) (sym (at_set_same lists_of [] xs v a l)) h
