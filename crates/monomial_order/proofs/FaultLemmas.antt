-- Faults of weights and rows.
use Rattle.std.proofs.Common.{◌≡◌, ℕ, zero, suc, ◌+◌, ◌-◌, ◌<◌, ◌≤◌, refl, sym, ◌∙◌, ap, subst, List, [], ◌∷◌, length, get_or, true, Some, arith, ◌⊎◌, ⊎_elim}
use Rattle.std.specs.Prelude.{position, slice_get, All, Any, nat_eq, nat_lt, not}
use Rattle.std.proofs.lemmas.Bool.{eqb-true, eq-eqb}
use Rattle.std.proofs.lemmas.Bool.Decides.{nat_tests}
use Rattle.std.proofs.lemmas.List.Elements.{All-tail}
use Rattle.std.proofs.lemmas.Option.{slice_get-get_or, get_or_from_slice_get}
use Rattle.std.proofs.lemmas.List.Quantifiers.{position-Some}
use Rattle.monomial_order.specs.declared.order_fault.OrderFault.{OrderFault}
use Rattle.monomial_order.specs.declared.order_fault.OrderFault.TheVariants.{PlaceCount, TooManyRows, ZeroWeight, TooHeavy, RowLength, Memory}
use Rattle.monomial_order.specs.Faults.{IsFirst, IsNth, IsFault, IsFirstHeavy, IsLight, HasPlaces}
use Rattle.monomial_order.specs.laws.Orders.{all_three, between_from_all}
use Rattle.monomial_order.specs.Ranges.{all_between, are_rows}
use Rattle.monomial_order.proofs.Firsts.{first_from_position, first_from_test, IsNth-same, IsFirst-same, none_is_first}

pub zero_first : (ws : List ℕ) (i : ℕ) → position (λ n. nat_eq n 0) ws ≡ Some i → IsFirst (λ w. w ≡ 0) ws (i + 1)
zero_first ws i h = first_from_position (λ n. nat_eq n 0) (λ w. w ≡ 0) (λ x e. eqb-true x 0 e) (λ x e. eq-eqb x 0 e) ws i 0 h

lt_passes : (a b : ℕ) → nat_lt a b ≡ true → a < b
lt_passes a b h = grind (arith, nat_tests)

lt_tests : (a b : ℕ) → a < b → nat_lt a b ≡ true
lt_tests a b h = grind (arith, nat_tests)

pub above_first : (bound : ℕ) (ns : List ℕ) (i : ℕ) → position (λ n. nat_lt bound n) ns ≡ Some i → IsFirst (λ n. bound < n) ns (i + 1)
above_first bound ns i h = first_from_position (λ n. nat_lt bound n) (λ n. bound < n) (λ x e. lt_passes bound x e) (λ x e. lt_tests bound x e) ns i 0 h

pub uneven_first : (n : ℕ) (rows : List (List ℕ)) (i : ℕ) → position (λ row. not (nat_eq (length row) n)) rows ≡ Some i → IsFirst (λ row. length row ≡ n → ⊥) rows (i + 1)
uneven_first n rows i h =
    first_from_position (λ row. not (nat_eq (length row) n)) (λ row. length row ≡ n → ⊥) (λ row e. differ (length row) e) (λ row e. tests (length row) e) rows i [] h
  where
    differ : (l : ℕ) → not (nat_eq l n) ≡ true → l ≡ n → ⊥
    differ l h e = grind (arith, nat_tests)

    tests : (l : ℕ) → (l ≡ n → ⊥) → not (nat_eq l n) ≡ true
    tests l h = grind (arith, nat_tests)

light_not_heavy : (row : List ℕ) → All (λ e. e ≤ 1000) row → Any (λ e. 1000 < e) row → ⊥
light_not_heavy row all any = let l = all any.0 any.1 any.2 in let e = any.3 in let h = any.4 in clash (get_or row any.0 any.1) any.1 e l h
  where
    clash : (x y : ℕ) → x ≡ y → x ≤ 1000 → 1000 < y → ⊥
    clash x y e l h = omega arith

pub heavy_first : (ws : List ℕ) (rows : List (List ℕ)) (r : ℕ) (row entries : List ℕ) (i : ℕ) → All (λ w. w ≤ 64) ws → ((k : ℕ) → k < r → All (λ e. e ≤ 1000) (get_or rows k [])) →
    r < length rows → row ≡ get_or rows r row → entries ≡ row → position (λ n. nat_lt 1000 n) entries ≡ Some i → IsFirstHeavy ws rows (r + 1) (i + 1)
heavy_first ws rows r row entries i light before within at same h =
    let here : slice_get rows r ≡ Some row = slice_get-get_or rows r row within ∙ ap Some (sym at) in
    let first : IsFirst (λ e. 1000 < e) row (i + 1) = above_first 1000 row i (subst (λ l. position (λ n. nat_lt 1000 n) l ≡ Some i) same h) in
    let place = position-Some (λ n. nat_lt 1000 n) entries i 0 h in
    let heavy : Any (λ e. 1000 < e) row =
    subst (λ l. Any (λ e. 1000 < e) l) same (i, get_or entries i 0, place.0, default entries i place.0, lt_passes 1000 (get_or entries i 0) place.1) in
    subst (λ k. IsFirstHeavy ws rows k (i + 1)) (next r) (
      light,
      subst (IsFirst (Any (λ e. 1000 < e)) rows) (sym (next r))
          (first_from_test (Any (λ e. 1000 < e)) rows r [] within (subst (λ l. Any (λ e. 1000 < e) l) (sym (get_or_from_slice_get rows r row [] here)) heavy) (λ k l. light_not_heavy (get_or rows k []) (before k l))),
      λ other n. subst (λ l. IsFirst (λ e. 1000 < e) l (i + 1)) (IsNth-same rows (suc r) row other (record { counted = omega arith; here = ap (slice_get rows) (less_one r) ∙ here }) n) first,
    )
  where
    next : (r : ℕ) → suc r ≡ r + 1
    next r = omega arith

    less_one : (r : ℕ) → suc r - 1 ≡ r
    less_one r = omega arith

    default : (xs : List ℕ) (i : ℕ) → i < length xs → get_or xs i (get_or xs i 0) ≡ get_or xs i 0
    default xs i l = get_or_from_slice_get xs i (get_or xs i 0) (get_or xs i 0) (slice_get-get_or xs i 0 l)

no_places : (ws : List ℕ) → (length ws ≡ 0) ⊎ (32 < length ws) → HasPlaces ws → ⊥
no_places ws h p = let a = p.some in let b = p.few in ⊎_elim (λ e. absurd (omega arith)) (λ l. absurd (omega arith)) h

module _ (ws : List ℕ) (rows : List (List ℕ)) where
  zero_or_positive : (i : ℕ) → All (λ w. 1 ≤ w) ws → IsFirst (λ w. w ≡ 0) ws i → ⊥
  zero_or_positive i all first = none_is_first (λ w. 1 ≤ w) (λ w. w ≡ 0) ws i all first (λ w a b. omega arith)

  heavy_or_light : (r i : ℕ) → IsFirstHeavy ws rows r i → IsLight ws rows → ⊥
  heavy_or_light zero i h l = none_is_first (λ w. w ≤ 64) (λ w. 64 < w) ws i l.weights_light h (λ w a b. omega arith)
  heavy_or_light (suc r) i h l = none_is_first (All (λ e. e ≤ 1000)) (Any (λ e. 1000 < e)) rows (suc r) l.rows_light h.1 light_not_heavy

  heavy_same : (r i s j : ℕ) → IsFirstHeavy ws rows r i → IsFirstHeavy ws rows s j → TooHeavy r i ≡ TooHeavy s j
  heavy_same zero i zero j h k = ap (TooHeavy 0) (IsFirst-same (λ w. 64 < w) ws i j h k)
  heavy_same zero i (suc s) j h k = absurd (none_is_first (λ w. w ≤ 64) (λ w. 64 < w) ws i k.0 h (λ w a b. omega arith))
  heavy_same (suc r) i zero j h k = absurd (none_is_first (λ w. w ≤ 64) (λ w. 64 < w) ws j h.0 k (λ w a b. omega arith))
  heavy_same (suc r) i (suc s) j h k =
      let e = IsFirst-same (Any (λ e. 1000 < e)) rows (suc r) (suc s) h.1 k.1 in
      let row = h.1.at in
      let n = h.1.nth in
      ap (λ x. TooHeavy x i) e ∙ ap (TooHeavy (suc s)) (IsFirst-same (λ e. 1000 < e) row i j (h.2 row n) (k.2 row (subst (λ x. IsNth rows x row) e n)))

  uneven_or_whole : (r : ℕ) → All (λ row. length row ≡ length ws) rows → IsFirst (λ row. length row ≡ length ws → ⊥) rows r → ⊥
  uneven_or_whole r all first = none_is_first (λ row. length row ≡ length ws) (λ row. length row ≡ length ws → ⊥) rows r all first (λ row a b. b a)

  too_many : length rows ≤ 4 → 4 < length rows → ⊥
  too_many h k = omega arith

  -- there is one fault at most
  pub fault_same : (e f : OrderFault) → IsFault ws rows e → IsFault ws rows f → e ≡ f
  fault_same PlaceCount PlaceCount h k = refl
  fault_same PlaceCount TooManyRows h k = absurd (no_places ws h k.0)
  fault_same PlaceCount (ZeroWeight i) h k = absurd (no_places ws h k.0)
  fault_same PlaceCount (TooHeavy r i) h k = absurd (no_places ws h k.0)
  fault_same PlaceCount (RowLength r) h k = absurd (no_places ws h k.0)
  fault_same PlaceCount Memory h k = absurd (no_places ws h k.places)
  fault_same TooManyRows PlaceCount h k = absurd (no_places ws k h.0)
  fault_same TooManyRows TooManyRows h k = refl
  fault_same TooManyRows (ZeroWeight i) h k = absurd (too_many k.1 h.1)
  fault_same TooManyRows (TooHeavy r i) h k = absurd (too_many k.1 h.1)
  fault_same TooManyRows (RowLength r) h k = absurd (too_many k.1 h.1)
  fault_same TooManyRows Memory h k = absurd (too_many k.few_rows h.1)
  fault_same (ZeroWeight i) PlaceCount h k = absurd (no_places ws k h.0)
  fault_same (ZeroWeight i) TooManyRows h k = absurd (too_many h.1 k.1)
  fault_same (ZeroWeight i) (ZeroWeight j) h k = ap ZeroWeight (IsFirst-same (λ w. w ≡ 0) ws i j h.2 k.2)
  fault_same (ZeroWeight i) (TooHeavy r j) h k = absurd (zero_or_positive i k.2 h.2)
  fault_same (ZeroWeight i) (RowLength r) h k = absurd (zero_or_positive i k.2 h.2)
  fault_same (ZeroWeight i) Memory h k = absurd (zero_or_positive i k.positive h.2)
  fault_same (TooHeavy r i) PlaceCount h k = absurd (no_places ws k h.0)
  fault_same (TooHeavy r i) TooManyRows h k = absurd (too_many h.1 k.1)
  fault_same (TooHeavy r i) (ZeroWeight j) h k = absurd (zero_or_positive j h.2 k.2)
  fault_same (TooHeavy r i) (TooHeavy s j) h k = heavy_same r i s j h.3 k.3
  fault_same (TooHeavy r i) (RowLength s) h k = absurd (heavy_or_light r i h.3 k.3)
  fault_same (TooHeavy r i) Memory h k = absurd (heavy_or_light r i h.3 k.light)
  fault_same (RowLength r) PlaceCount h k = absurd (no_places ws k h.0)
  fault_same (RowLength r) TooManyRows h k = absurd (too_many h.1 k.1)
  fault_same (RowLength r) (ZeroWeight i) h k = absurd (zero_or_positive i h.2 k.2)
  fault_same (RowLength r) (TooHeavy s i) h k = absurd (heavy_or_light s i k.3 h.3)
  fault_same (RowLength r) (RowLength s) h k = ap RowLength (IsFirst-same (λ row. length row ≡ length ws → ⊥) rows r s h.4 k.4)
  fault_same (RowLength r) Memory h k = absurd (uneven_or_whole r k.whole_rows h.4)
  fault_same Memory PlaceCount h k = absurd (no_places ws k h.places)
  fault_same Memory TooManyRows h k = absurd (too_many h.few_rows k.1)
  fault_same Memory (ZeroWeight i) h k = absurd (zero_or_positive i h.positive k.2)
  fault_same Memory (TooHeavy r i) h k = absurd (heavy_or_light r i k.3 h.light)
  fault_same Memory (RowLength r) h k = absurd (uneven_or_whole r h.whole_rows k.4)
  fault_same Memory Memory h k = refl

pub rows_from_all : (n : ℕ) (rows : List (List ℕ)) → All (λ row. length row ≡ n) rows → All (All (λ e. e ≤ 1000)) rows → are_rows n rows ≡ true
rows_from_all n [] h k = refl
rows_from_all n (row ∷ rows) h k =
    all_three (nat_eq (length row) n) (all_between 0 1000 row) (are_rows n rows) (eq-eqb (length row) n (h 0 row (omega arith)))
    (between_from_all 0 1000 row (λ i d l. omega arith) (k 0 row (omega arith)))
    (rows_from_all n rows (All-tail (λ row. length row ≡ n) row rows h) (All-tail (All (λ e. e ≤ 1000)) row rows k))
