-- Keys that carry names, and the list of these names.
use Rattle.std.proofs.Common.{◌≡◌, ℕ, suc, ◌+◌, refl, sym, ◌∙◌, ap, subst, List, [], ◌∷◌, map, Bool, true, false, arith, ⊎_elim, Some, None, cond}
use Rattle.std.specs.Prelude.{Contains, slice_get, ◌||◌}
use Rattle.std.specs.List.{list_any, position, position_from, AllByRecursion, AllZip, IsDistinct}
use Rattle.std.specs.Str.{bytes_eq}
use Rattle.std.proofs.lemmas.Slice.Eq.{bytes_eq-Decides}
use Rattle.std.proofs.lemmas.Iterator.Adapters.{position_from-zero}
use Rattle.monomial_order.specs.laws.Lists.{contains_cases, contains_here, contains_there, contains_none}

module _ {A : Type 0} (f : A → List ℕ) where
  -- a test that finds a name finds a member, and a member is found
  pub contains_from_any : (q : List ℕ) (ks : List A) → list_any (λ k. bytes_eq q (f k)) ks ≡ true → Contains (map f ks) q
  contains_from_any q [] h = let e : false ≡ true = h in cc
  contains_from_any q (k ∷ ks) h =
      elim (bytes_eq q (f k)) as (λ b. bytes_eq q (f k) ≡ b → (b || list_any (λ k. bytes_eq q (f k)) ks) ≡ true → Contains (f k ∷ map f ks) q) [
        | true ↦ λ e i. subst (Contains (f k ∷ map f ks)) (sym ((bytes_eq-Decides q (f k)).0 e)) (contains_here (f k) (map f ks))
        | false ↦ λ e i. contains_there (f k) (map f ks) q (contains_from_any q ks i)
      ] refl h

  pub any_from_contains : (q : List ℕ) (ks : List A) → Contains (map f ks) q → list_any (λ k. bytes_eq q (f k)) ks ≡ true
  any_from_contains q [] h = absurd (contains_none q h)
  any_from_contains q (k ∷ ks) h =
      ⊎_elim (λ e. ap (λ b. b || list_any (λ k. bytes_eq q (f k)) ks) ((bytes_eq-Decides q (f k)).1 (sym e)))
      (λ i. or_true (bytes_eq q (f k)) (list_any (λ k. bytes_eq q (f k)) ks) (any_from_contains q ks i)) (contains_cases (f k) (map f ks) q h)
    where
      or_true : (a b : Bool) → b ≡ true → (a || b) ≡ true
      or_true true b h = refl
      or_true false b h = h

  -- what is found from the index s on is the member at the index found
  found_from : (q : List ℕ) (ks : List A) (s i : ℕ) → position_from (λ k. bytes_eq q (f k)) s ks ≡ Some i → (k : ℕ) × (i ≡ s + k) × (slice_get (map f ks) k ≡ Some q)
  found_from q [] s i h = let e : None ≡ Some i = h in cc
  found_from q (k ∷ ks) s i h =
      elim (bytes_eq q (f k)) as (λ b. bytes_eq q (f k) ≡ b → cond b (Some s) (position_from (λ k. bytes_eq q (f k)) (s + 1) ks) ≡ Some i → (j : ℕ) × (i ≡ s + j) × (slice_get (f k ∷ map f ks) j ≡ Some q)) [
        | true ↦ λ e g. (0, at s i g, ap Some (sym ((bytes_eq-Decides q (f k)).0 e)))
        | false ↦ λ e g. later k ks s i q (found_from q ks (s + 1) i g)
      ] refl h
    where
      at : (s i : ℕ) → Some s ≡ Some i → i ≡ s + 0
      at s i g = let e : s ≡ i = cc in omega arith

      later : (k : A) (ks : List A) (s i : ℕ) (q : List ℕ) → (j : ℕ) × (i ≡ s + 1 + j) × (slice_get (map f ks) j ≡ Some q) → (j : ℕ) × (i ≡ s + j) × (slice_get (f k ∷ map f ks) j ≡ Some q)
      later k ks s i q r = let e = r.1 in (suc r.0, omega arith, r.2)

  pub found_at : (q : List ℕ) (ks : List A) (i : ℕ) → position (λ k. bytes_eq q (f k)) ks ≡ Some i → slice_get (map f ks) i ≡ Some q
  found_at q ks i h = at (found_from q ks 0 i (sym (position_from-zero (λ k. bytes_eq q (f k)) ks) ∙ h))
    where
      at : (k : ℕ) × (i ≡ 0 + k) × (slice_get (map f ks) k ≡ Some q) → slice_get (map f ks) i ≡ Some q
      at r = let e : r.0 ≡ i = omega (arith, r.1) in subst (λ j. slice_get (map f ks) j ≡ Some q) e r.2

  -- keys that carry different names give different names
  all_names : (x : List ℕ) (ks : List A) → AllByRecursion (λ k. bytes_eq x (f k) ≡ false) ks → AllByRecursion (λ y. bytes_eq x y ≡ false) (map f ks)
  all_names x [] h = h
  all_names x (k ∷ ks) h = (h.0, all_names x ks h.1)

  pub distinct_names : (ks : List A) → IsDistinct (λ a b. bytes_eq (f a) (f b)) ks → IsDistinct bytes_eq (map f ks)
  unfolding IsDistinct
  distinct_names [] h = h
  distinct_names (k ∷ ks) h = (all_names (f k) ks h.0, distinct_names ks h.1)

  -- keys that carry the same names, one by one
  pub same_names : (ks new : List A) → AllZip (λ k n. f n ≡ f k) ks new → map f new ≡ map f ks
  same_names [] [] h = refl
  same_names [] (n ∷ new) h = absurd h
  same_names (k ∷ ks) [] h = absurd h
  same_names (k ∷ ks) (n ∷ new) h = ap (λ x. x ∷ map f new) h.0 ∙ ap (λ x. f k ∷ x) (same_names ks new h.1)
