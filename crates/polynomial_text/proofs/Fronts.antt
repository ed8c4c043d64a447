-- The longest front of bytes that pass, and what is behind it.
use Rattle.std.proofs.Common.{◌≡◌, ℕ, suc, ◌+◌, ◌-◌, ◌≤◌, Bool, true, false, not, cond, ltb, List, [], ◌∷◌, length, take, drop, Some, None, refl, sym, ap, ◌∙◌, arith}
use Rattle.std.specs.List.{position, position_or_len}
use Rattle.std.proofs.lemmas.Bool.{ltb-false}
use Rattle.std.proofs.lemmas.List.{take_rest, take_all, drop_all}
use Rattle.polynomial_text.specs.Bytes.{front, behind}

found_at : (p : ℕ → Bool) (xs : List ℕ) (i : ℕ) → position p xs ≡ Some i → position_or_len p xs ≡ i
found_at p xs i h =
    elim (ltb (position_or_len p xs) (length xs)) as (λ t. cond t (Some (position_or_len p xs)) None ≡ Some i → position_or_len p xs ≡ i) [ true ↦ λ g. cc | false ↦ λ g. absurd cc ] h

found_nowhere : (p : ℕ → Bool) (xs : List ℕ) → position p xs ≡ None → length xs ≤ position_or_len p xs
found_nowhere p xs h =
    elim (ltb (position_or_len p xs) (length xs)) as (λ t. ltb (position_or_len p xs) (length xs) ≡ t → cond t (Some (position_or_len p xs)) None ≡ None → length xs ≤ position_or_len p xs) [
      | true ↦ λ t g. absurd cc
      | false ↦ λ t g. ltb-false _ _ t
    ] refl h

one_more : (n : ℕ) → 1 + n ≡ suc n
one_more n = omega arith

module _ (test : ℕ → Bool) where
  -- the index of the first byte that fails
  abbrev end : List ℕ → ℕ
  end bytes = position_or_len (λ b. not (test b)) bytes

  take_front : (bytes : List ℕ) → take (end bytes) bytes ≡ front test bytes
  unfolding front
  take_front [] = refl
  take_front (b ∷ bytes) =
      elim (test b) as (λ t. take (cond (not (not t)) (1 + end bytes) 0) (b ∷ bytes) ≡ cond t (b ∷ front test bytes) []) [
        | true ↦ ap (λ (k : ℕ). take k (b ∷ bytes)) (one_more (end bytes)) ∙ ap (λ (r : List ℕ). b ∷ r) (take_front bytes)
        | false ↦ refl
      ]

  drop_behind : (bytes : List ℕ) → drop (end bytes) bytes ≡ behind test bytes
  unfolding behind
  drop_behind [] = refl
  drop_behind (b ∷ bytes) =
      elim (test b) as (λ t. drop (cond (not (not t)) (1 + end bytes) 0) (b ∷ bytes) ≡ cond t (behind test bytes) (b ∷ bytes)) [
        | true ↦ ap (λ (k : ℕ). drop k (b ∷ bytes)) (one_more (end bytes)) ∙ drop_behind bytes
        | false ↦ refl
      ]

  pub front_at : (bytes : List ℕ) (i : ℕ) → Some i ≡ position (λ b. not (test b)) bytes → take i bytes ≡ front test bytes
  front_at bytes i h = ap (λ (n : ℕ). take n bytes) (sym (found_at (λ b. not (test b)) bytes i (sym h))) ∙ take_front bytes

  pub behind_at : (bytes : List ℕ) (i : ℕ) → Some i ≡ position (λ b. not (test b)) bytes → take (length bytes - i) (drop i bytes) ≡ behind test bytes
  behind_at bytes i h = take_rest bytes i ∙ (ap (λ (n : ℕ). drop n bytes) (sym (found_at (λ b. not (test b)) bytes i (sym h))) ∙ drop_behind bytes)

  pub front_all : (bytes : List ℕ) → None ≡ position (λ b. not (test b)) bytes → bytes ≡ front test bytes
  front_all bytes h = sym (take_all (end bytes) bytes (found_nowhere (λ b. not (test b)) bytes (sym h))) ∙ take_front bytes

  pub behind_all : (bytes : List ℕ) → None ≡ position (λ b. not (test b)) bytes → [] ≡ behind test bytes
  behind_all bytes h = sym (drop_all (end bytes) bytes (found_nowhere (λ b. not (test b)) bytes (sym h))) ∙ drop_behind bytes
