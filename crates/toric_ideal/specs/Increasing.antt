-- Increasing lists of monomials.
use Rattle.std.specs.Prelude.{◌≡◌, ◌≢◌, ℕ, suc, ◌≤◌, List, ◌++◌, length, take, drop, Contains, ◌⊎◌, ◌↔◌, AllPairs}
use Rattle.monomial_order.specs.Limits.{exponent_max}
use Rattle.std.specs.declared.cmp.Ordering.TheVariants.{Less}
use Rattle.monomial_order.specs.Monomial.{Exponents, IsMonomial}
use Rattle.monomial_order.specs.MonomialOrder.{IsIncreasing, MonomialOrder}

-- a monomial of the places, of a degree that the order compares
pub record IsComparable (O : MonomialOrder) (m : Exponents) : Type 0 where
  pub monomial : IsMonomial O.places m
  pub small : O.degree m ≤ exponent_max

abbrev pub AreComparable : MonomialOrder → List Exponents → Type 0
AreComparable O ms = (m : Exponents) → Contains ms m → IsComparable O m

-- the members before the index are less than m, and the others aren't
pub record IsInsertionIndex (O : MonomialOrder) (ms : List Exponents) (m : Exponents) (i : ℕ) : Type 0 where
  pub within : i ≤ length ms
  pub before : (k : Exponents) → Contains (take i ms) k → O.compare k m ≡ Less
  pub after : (k : Exponents) → Contains (drop i ms) k → O.compare k m ≢ Less

-- the increasing list of m and the members of the old one
pub record IsInserted (O : MonomialOrder) (old new : List Exponents) (m : Exponents) : Type 0 where
  pub increasing : IsIncreasing O new
  pub here : Contains new m
  pub keeps : (k : Exponents) → Contains old k → Contains new k
  pub only : (k : Exponents) → Contains new k → (m ≡ k) ⊎ Contains old k
  pub longer : ¬ Contains old m → length new ≡ suc (length old)

-- the increasing list of the members of a list, and as long if these are distinct
pub record IsSorted (O : MonomialOrder) (list sorted : List Exponents) : Type 0 where
  pub increasing : IsIncreasing O sorted
  pub members : (m : Exponents) → Contains list m ↔ Contains sorted m
  pub number : AllPairs (λ m n. m ≢ n) list → length sorted ≡ length list

-- the first members, so many, and then the increasing list of the others
pub record IsSortedFrom (O : MonomialOrder) (count : ℕ) (list new : List Exponents) : Type 0 where
  pub last : List Exponents
  pub whole : new ≡ take count list ++ last
  pub sorted : IsSorted O (drop count list) last
