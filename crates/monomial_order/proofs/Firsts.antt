-- The first place with a property.
use Rattle.std.proofs.Common.{◌≡◌, ℕ, ◌+◌, ◌-◌, ◌<◌, ◌≤◌, sym, ◌∙◌, ap, subst, List, length, get_or, Bool, true, Some, arith, ◌⊎◌, ⊎_elim}
use Rattle.std.specs.Prelude.{position, slice_get, All}
use Rattle.std.proofs.lemmas.Bool.{true≢false}
use Rattle.std.proofs.lemmas.List.Quantifiers.{position-Some}
use Rattle.std.proofs.lemmas.Option.{slice_get-get_or, get_or_from_slice_get, slice_get_within}
use Rattle.monomial_order.specs.Faults.{IsFirst, IsNth}

le_or_above : (a b : ℕ) → (a ≤ b) ⊎ (b < a)
le_or_above a b = grind arith

-- the first place at which a test passes
pub first_from_test : {A : Type 0} (P : A → Type 0) (xs : List A) (i : ℕ) (d : A) → i < length xs → P (get_or xs i d) → ((k : ℕ) → k < i → P (get_or xs k d) → ⊥) → IsFirst P xs (i + 1)
first_from_test {A} P xs i d l h before = record {
  at = get_or xs i d;
  nth = record { counted = omega arith; here = ap (slice_get xs) (less_one i) ∙ slice_get-get_or xs i d l };
  has = h;
  least = λ k x n p. ⊎_elim (λ le. le) (λ lt. absurd (before (k - 1) (earlier k n.counted lt) (subst P (sym (get_or_from_slice_get xs (k - 1) x d n.here)) p))) (le_or_above (i + 1) k);
}
  where
    less_one : (i : ℕ) → i + 1 - 1 ≡ i
    less_one i = omega arith

    earlier : (k : ℕ) → 1 ≤ k → k < i + 1 → k - 1 < i
    earlier k c lt = omega arith

pub first_from_position : {A : Type 0} (p : A → Bool) (P : A → Type 0) → ((x : A) → p x ≡ true → P x) → ((x : A) → P x → p x ≡ true) → (xs : List A) (i : ℕ) (d : A) →
    position p xs ≡ Some i → IsFirst P xs (i + 1)
first_from_position {A} p P passes fails xs i d h =
    let s = position-Some p xs i d h in
    first_from_test P xs i d s.0 (passes (get_or xs i d) s.1) (λ k l q. true≢false (sym (fails (get_or xs k d) q) ∙ s.2 k l))

pub IsNth-same : {A : Type 0} (xs : List A) (i : ℕ) (x y : A) → IsNth xs i x → IsNth xs i y → x ≡ y
IsNth-same xs i x y h k = sym (get_or_from_slice_get xs (i - 1) x x h.here) ∙ get_or_from_slice_get xs (i - 1) y x k.here

pub IsFirst-same : {A : Type 0} (P : A → Type 0) (xs : List A) (i j : ℕ) → IsFirst P xs i → IsFirst P xs j → i ≡ j
IsFirst-same P xs i j h k = let a = h.least j k.at k.nth k.has in let b = k.least i h.at h.nth h.has in omega arith

pub none_is_first : {A : Type 0} (P Q : A → Type 0) (xs : List A) (i : ℕ) → All P xs → IsFirst Q xs i → ((x : A) → P x → Q x → ⊥) → ⊥
none_is_first P Q xs i all first apart =
    apart first.at (subst P (get_or_from_slice_get xs (i - 1) first.at first.at first.nth.here) (all (i - 1) first.at (slice_get_within xs (i - 1) first.at first.nth.here))) first.has
