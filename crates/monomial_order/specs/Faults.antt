-- Why weights and rows make no order. Weights, rows and the entries of a row are counted from 1.
use Rattle.std.specs.Prelude.{◌≡◌, ℕ, zero, suc, ◌-◌, ◌≤◌, ◌<◌, ◌⊎◌, List, length, slice_get, Some, All, Any}
use Rattle.monomial_order.specs.declared.order_fault.OrderFault.{OrderFault}
use Rattle.monomial_order.specs.declared.order_fault.OrderFault.TheVariants.{PlaceCount, TooManyRows, ZeroWeight, TooHeavy, RowLength, Memory}

-- x is the i-th
pub record IsNth {A : Type 0} (xs : List A) (i : ℕ) (x : A) : Type 0 where
  pub counted : 1 ≤ i
  pub here : slice_get xs (i - 1) ≡ Some x

-- the i-th is the first with the property
pub record IsFirst {A : Type 0} (P : A → Type 0) (xs : List A) (i : ℕ) : Type 0 where
  pub at : A
  pub nth : IsNth xs i at
  pub has : P at
  pub least : (k : ℕ) (x : A) → IsNth xs k x → P x → i ≤ k

-- from 1 to 32 weights
pub record HasPlaces (weights : List ℕ) : Type 0 where
  pub some : 1 ≤ length weights
  pub few : length weights ≤ 32

-- each weight is at most 64, and each entry of a row at most 1000
pub record IsLight (weights : List ℕ) (rows : List (List ℕ)) : Type 0 where
  pub weights_light : All (λ w. w ≤ 64) weights
  pub rows_light : All (All (λ e. e ≤ 1000)) rows

-- the i-th entry of the row is the first that is too heavy; row 0 is the weights, which come first
abbrev pub IsFirstHeavy : List ℕ → List (List ℕ) → ℕ → ℕ → Type 0
IsFirstHeavy weights rows zero i = IsFirst (λ w. 64 < w) weights i
IsFirstHeavy weights rows (suc r) i =
    All (λ w. w ≤ 64) weights × IsFirst (Any (λ e. 1000 < e)) rows (suc r) × ((row : List ℕ) → IsNth rows (suc r) row → IsFirst (λ e. 1000 < e) row i)

-- the weights and rows of an order
pub record IsWeighing (weights : List ℕ) (rows : List (List ℕ)) : Type 0 where
  pub places : HasPlaces weights
  pub few_rows : length rows ≤ 4
  pub positive : All (λ w. 1 ≤ w) weights
  pub light : IsLight weights rows
  pub whole_rows : All (λ row. length row ≡ length weights) rows

-- when each fault comes, the earlier ones first
abbrev pub IsFault : List ℕ → List (List ℕ) → OrderFault → Type 0
IsFault weights rows PlaceCount = (length weights ≡ 0) ⊎ (32 < length weights)
IsFault weights rows TooManyRows = HasPlaces weights × (4 < length rows)
IsFault weights rows (ZeroWeight i) = HasPlaces weights × (length rows ≤ 4) × IsFirst (λ w. w ≡ 0) weights i
IsFault weights rows (TooHeavy r i) = HasPlaces weights × (length rows ≤ 4) × All (λ w. 1 ≤ w) weights × IsFirstHeavy weights rows r i
IsFault weights rows (RowLength r) =
    HasPlaces weights × (length rows ≤ 4) × All (λ w. 1 ≤ w) weights × IsLight weights rows × IsFirst (λ row. length row ≡ length weights → ⊥) rows r
IsFault weights rows Memory = IsWeighing weights rows
