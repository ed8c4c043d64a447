-- The parts of a line before and behind the first byte of a kind.
use Rattle.std.proofs.Common.{◌≡◌, ℕ, zero, suc, ◌+◌, ◌<◌, ◌≤◌, Bool, true, false, cond, eqb, ltb, List, [], ◌∷◌, ◌++◌, length, take, drop, drop-cons, get_or, Some, None, refl, sym, ap, subst, ◌∙◌, ⊎_elim, append_assoc, arith}
use Rattle.std.specs.Prelude.{◌==◌, Contains}
use Rattle.std.specs.List.{position, position_or_len}
use Rattle.std.proofs.lemmas.Bool.{eqb-true, eq-eqb, ltb-false, true≢false}
use Rattle.std.proofs.lemmas.List.{append_cancel_right, get_or_read, take-append-drop}
use Rattle.std.proofs.lemmas.List.Quantifiers.{position-Some}
use Rattle.std.proofs.lemmas.List.Sums.{fails_before_first}
use Rattle.monomial_order.specs.laws.Lists.{contains_cases, contains_here, contains_none, contains_right, contains_there}
use Rattle.polynomial_text.specs.laws.CanonicalParts.{Lack}
use Rattle.state_text.specs.LineReadings.{IsParted}

-- bytes that all fail a test for the mark do not contain it
pub lacks : (mark : ℕ) (a : List ℕ) → Lack (λ b. b == mark) a → ¬ Contains a mark
lacks mark [] h k = contains_none mark k
lacks mark (b ∷ a) h k = ⊎_elim (λ e. true≢false (sym (eq-eqb b mark e) ∙ h.0)) (λ i. lacks mark a h.1 i) (contains_cases b a mark k)

-- what is before the first mark, and behind it
pub first_same : (mark : ℕ) (a c r s : List ℕ) → ¬ Contains a mark → ¬ Contains c mark → a ++ (mark ∷ r) ≡ c ++ (mark ∷ s) → (a ≡ c) × (r ≡ s)
first_same mark [] [] r s n k e = (refl, cc)
first_same mark [] (y ∷ c) r s n k e = let same : y ≡ mark = cc in absurd (k (subst (Contains (y ∷ c)) same (contains_here y c)))
first_same mark (x ∷ a) [] r s n k e = let same : x ≡ mark = cc in absurd (n (subst (Contains (x ∷ a)) same (contains_here x a)))
first_same mark (x ∷ a) (y ∷ c) r s n k e =
    let tail : a ++ (mark ∷ r) ≡ c ++ (mark ∷ s) = cc in
    let head : x ≡ y = cc in
    let rest = first_same mark a c r s (λ i. n (contains_there x a mark i)) (λ i. k (contains_there y c mark i)) tail in
    let whole : a ≡ c = rest.0 in
    (cc, rest.1)

module _ (mark : ℕ) where
  regroup : (a b : List ℕ) → a ++ 32 ∷ (mark ∷ (32 ∷ b)) ≡ (a ++ 32 ∷ []) ++ (mark ∷ (32 ∷ b))
  regroup a b = sym (append_assoc a (32 ∷ []) (mark ∷ (32 ∷ b)))

  -- a line has one such pair of parts
  pub parted_same : (line a b c d : List ℕ) → IsParted mark line a b → IsParted mark line c d → (a ≡ c) × (b ≡ d)
  parted_same line a b c d h k =
      let both = first_same mark (a ++ 32 ∷ []) (c ++ 32 ∷ []) (32 ∷ b) (32 ∷ d) h.first k.first (sym (regroup a b) ∙ (sym h.whole ∙ (k.whole ∙ regroup c d))) in
      let behind : 32 ∷ b ≡ 32 ∷ d = both.1 in
      (append_cancel_right a c (32 ∷ []) both.0, cc)

  not_before : (xs : List ℕ) (i : ℕ) → ((k : ℕ) → k < i → (get_or xs k 0 == mark) ≡ false) → ¬ Contains (take i xs) mark
  not_before xs zero h k = contains_none mark k
  not_before [] (suc i) h k = contains_none mark k
  not_before (x ∷ xs) (suc i) h k =
      ⊎_elim (λ e. true≢false (sym (eq-eqb x mark e) ∙ h 0 (omega arith))) (λ m. not_before xs i (λ j lt. h (suc j) (omega arith)) m) (contains_cases x (take i xs) mark k)

  pub nowhere : (line : List ℕ) → None ≡ position (λ b. b == mark) line → ¬ Contains line mark
  nowhere line h k =
      let far : length line ≤ position_or_len (λ b. b == mark) line = elim (ltb (position_or_len (λ b. b == mark) line) (length line)) as (λ t. ltb (position_or_len (λ b. b == mark) line) (length line) ≡ t → None ≡ cond t (Some (position_or_len (λ b. b == mark) line)) None → length line ≤ position_or_len (λ b. b == mark) line) [
        | true ↦ λ t g. absurd cc
        | false ↦ λ t g. ltb-false _ _ t
      ] refl h in
      let is : get_or line k.0 0 ≡ mark = sym (get_or_read line k.0 mark k.1 (sym k.2) 0) in
      true≢false (sym (eq-eqb (get_or line k.0 0) mark is) ∙ fails_before_first (λ b. b == mark) line k.0 0 (omega (arith, k.1)))

  module _ (line : List ℕ) (i : ℕ) (found : Some i ≡ position (λ b. b == mark) line) where
    at_mark : drop i line ≡ mark ∷ drop (suc i) line
    at_mark =
        let h = position-Some (λ b. b == mark) line i 0 (sym found) in
        drop-cons line i 0 h.0 ∙ ap (λ b. b ∷ drop (suc i) line) (eqb-true (get_or line i 0) mark h.1)

    not_in_front : ¬ Contains (take i line) mark
    not_in_front = not_before line i (position-Some (λ b. b == mark) line i 0 (sym found)).2

    whole : line ≡ take i line ++ drop i line
    whole = sym (take-append-drop i line)

    -- the parts that are there if a space is on each side
    pub parted : (a b : List ℕ) → take i line ≡ a ++ 32 ∷ [] → drop i line ≡ mark ∷ (32 ∷ b) → IsParted mark line a b
    parted a b before behind = record {
      whole = whole ∙ (ap (λ l. l ++ drop i line) before ∙ (ap (λ l. (a ++ 32 ∷ []) ++ l) behind ∙ sym (regroup a b)));
      first = subst (λ l. ¬ Contains l mark) before not_in_front;
    }

    module _ (a b : List ℕ) (h : IsParted mark line a b) where
      both : (take i line ≡ a ++ 32 ∷ []) × (drop (suc i) line ≡ 32 ∷ b)
      both = first_same mark (take i line) (a ++ 32 ∷ []) (drop (suc i) line) (32 ∷ b) not_in_front h.first
          (sym (whole ∙ ap (λ l. take i line ++ l) at_mark) ∙ (h.whole ∙ regroup a b))

      pub parted_before : take i line ≡ a ++ 32 ∷ []
      parted_before = both.0

      pub parted_behind : drop i line ≡ mark ∷ (32 ∷ b)
      parted_behind = at_mark ∙ ap (λ l. mark ∷ l) both.1

  -- the line with its line feed
  pub without_feed : (line a b : List ℕ) → line ++ 10 ∷ [] ≡ a ++ (32 ∷ (mark ∷ (32 ∷ (b ++ 10 ∷ [])))) → line ≡ a ++ 32 ∷ (mark ∷ (32 ∷ b))
  without_feed line a b e = append_cancel_right line (a ++ 32 ∷ (mark ∷ (32 ∷ b))) (10 ∷ []) (e ∙ sym (append_assoc a (32 ∷ (mark ∷ (32 ∷ b))) (10 ∷ [])))

  pub with_feed : (line a b : List ℕ) → line ≡ a ++ 32 ∷ (mark ∷ (32 ∷ b)) → line ++ 10 ∷ [] ≡ a ++ (32 ∷ (mark ∷ (32 ∷ (b ++ 10 ∷ []))))
  with_feed line a b e = ap (λ l. l ++ 10 ∷ []) e ∙ append_assoc a (32 ∷ (mark ∷ (32 ∷ b))) (10 ∷ [])

  -- parts have the mark between them
  pub parted_contains : (line a b : List ℕ) → IsParted mark line a b → Contains line mark
  parted_contains line a b h = subst (λ l. Contains l mark) (sym (h.whole ∙ regroup a b)) (contains_right (a ++ 32 ∷ []) (mark ∷ (32 ∷ b)) mark (contains_here mark (32 ∷ b)))
