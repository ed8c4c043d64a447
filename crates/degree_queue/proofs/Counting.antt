-- How often a number is in a list, and lists without repeats.
use Rattle.std.proofs.Common.{◌≡◌, ◌≢◌, ℕ, zero, suc, ◌+◌, ◌<◌, ◌≤◌, true, false, cond, ◌==◌, List, [], ◌∷◌, ◌++◌, length, refl, sym, ap, inl, inr, arith, subst}
use Rattle.std.specs.List.{IsDistinct, list_any, remove, slice_index, AllByRecursion}
use Rattle.std.proofs.lemmas.Bool.{cases_eq, eq-eqb, eqb-true, ne_eqb, or_cases, cond-true, cond-false}
use Rattle.std.proofs.lemmas.List.Sums.{sum_by-cons, sum_by-append, sum_by-remove}
use Rattle.std.proofs.lemmas.Map.Steps.{length-le_from_distinct_below}
use Rattle.degree_queue.specs.Links.{times, IsApart}

-- what one number adds to a count
abbrev pub here : ℕ → ℕ → ℕ
here i x = cond (x == i) 1 0

pub here_same : (i : ℕ) → here i i ≡ 1
here_same i = cond-true _ 1 0 (eq-eqb i i refl)

pub here_other : (i x : ℕ) → x ≢ i → here i x ≡ 0
here_other i x differs = cond-false _ 1 0 (ne_eqb x i differs)

pub times-cons : (i x : ℕ) (xs : List ℕ) → times i (x ∷ xs) ≡ here i x + times i xs
times-cons i x xs = sum_by-cons (here i) x xs

pub times-append : (i : ℕ) (xs ys : List ℕ) → times i (xs ++ ys) ≡ times i xs + times i ys
times-append i xs ys = sum_by-append (here i) xs ys

pub times-remove : (i : ℕ) (xs : List ℕ) (k : ℕ) → k < length xs → times i (remove xs k) + here i (slice_index xs k) ≡ times i xs
times-remove i xs k inside = sum_by-remove (here i) xs k 0 inside

-- a number in the list is counted
pub times-slice_index : (xs : List ℕ) (k : ℕ) → k < length xs → 0 < times (slice_index xs k) xs
times-slice_index xs k inside =
    omega (arith, times-remove (slice_index xs k) xs k inside, here_same (slice_index xs k))

-- a number that is counted is in the list
pub slice_index-counted : (i : ℕ) (xs : List ℕ) → 0 < times i xs → (k : ℕ) × (k < length xs) × (slice_index xs k ≡ i)
slice_index-counted i [] counted = absurd (omega arith)
slice_index-counted i (x ∷ xs) counted =
    elim (cases_eq x i) [
      | inl same ↦ (0, omega arith, same)
      | inr differs ↦
          let later = slice_index-counted i xs (omega (arith, times-cons i x xs, here_other i x differs)) in
          (suc later.0, omega (arith, later.1), later.2)
    ]

-- no number is at two indexes of a list without repeats
pub same_index : (xs : List ℕ) (j k : ℕ) → ((i : ℕ) → times i xs ≤ 1) → j < length xs → k < length xs → slice_index xs j ≡ slice_index xs k → j ≡ k
same_index [] j k once a b same = absurd (omega arith)
same_index (x ∷ xs) zero zero once a b same = refl
same_index (x ∷ xs) zero (suc k) once a b same =
    let counted : 0 < times x xs = subst (λ (y : ℕ). 0 < times y xs) (sym same) (times-slice_index xs k (omega arith)) in
    absurd (omega (arith, once x, times-cons x x xs, here_same x))
same_index (x ∷ xs) (suc j) zero once a b same =
    let counted : 0 < times x xs = subst (λ (y : ℕ). 0 < times y xs) same (times-slice_index xs j (omega arith)) in
    absurd (omega (arith, once x, times-cons x x xs, here_same x))
same_index (x ∷ xs) (suc j) (suc k) once a b same =
    ap suc (same_index xs j k (λ i. omega (arith, once i, times-cons i x xs)) (omega arith) (omega arith) same)

any_counted : (i : ℕ) (xs : List ℕ) → list_any (λ x. i == x) xs ≡ true → 0 < times i xs
any_counted i [] found = absurd (cc)
any_counted i (x ∷ xs) found =
    elim (or_cases (i == x) (list_any (λ x. i == x) xs) found) [
      | inl same ↦ omega (arith, times-cons i x xs, ap (λ (y : ℕ). here i y) (eqb-true i x same), here_same i)
      | inr later ↦ omega (arith, times-cons i x xs, any_counted i xs later)
    ]

none_equal : (x : ℕ) (xs : List ℕ) → times x xs ≡ 0 → AllByRecursion (λ y. (x == y) ≡ false) xs
none_equal x [] none = tt
none_equal x (y ∷ ys) none =
    let differs : x ≢ y = λ same. omega (arith, times-cons x y ys, ap (λ (z : ℕ). here x z) same, here_same x) in
    (ne_eqb x y differs, none_equal x ys (omega (arith, times-cons x y ys)))

distinct : (xs : List ℕ) → ((i : ℕ) → times i xs ≤ 1) → IsDistinct ◌==◌ xs
unfolding IsDistinct
distinct [] once = tt
distinct (x ∷ xs) once =
    (none_equal x xs (omega (arith, once x, times-cons x x xs, here_same x)), distinct xs (λ i. omega (arith, once i, times-cons i x xs)))

module _ (n : ℕ) (p : List ℕ) (apart : IsApart n p) where
  pub slice_index-lt : (k : ℕ) → k < length p → slice_index p k < n
  slice_index-lt k inside = apart.within _ (times-slice_index p k inside)

  pub length-le : length p ≤ n
  length-le = length-le_from_distinct_below p n (distinct p apart.once) (λ q found. apart.within q (any_counted q p found))

-- each part of a list without repeats
pub IsApart-left : (n : ℕ) (p q : List ℕ) → IsApart n (p ++ q) → IsApart n p
IsApart-left n p q apart = record {
  once = λ i. omega (arith, apart.once i, times-append i p q);
  within = λ i counted. apart.within i (omega (arith, times-append i p q));
}

-- what moves from one list to another is in neither twice
pub IsApart-moved : (n : ℕ) (p q : List ℕ) (k : ℕ) → k < length p → IsApart n (p ++ q) → IsApart n (q ++ slice_index p k ∷ [])
IsApart-moved n p q k inside apart = record {
  once = λ i. omega (arith, apart.once i, times-append i p q, times-append i q (slice_index p k ∷ []), times-cons i (slice_index p k) [], times-remove i p k inside);
  within = λ i counted. apart.within i (omega (arith, times-append i p q, times-append i q (slice_index p k ∷ []), times-cons i (slice_index p k) [], times-remove i p k inside));
}
