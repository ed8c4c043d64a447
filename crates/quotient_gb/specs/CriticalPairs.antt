-- Critical pairs: two leads, at the degree of their least common multiple.
use Rattle.std.specs.Prelude.{◌≡◌, ℕ, ◌≤◌, ◌<◌, ◌⊎◌, List, [], length, slice_index_or, Contains}
use Rattle.monomial_order.specs.Monomial.{AreCoprime, least_common_multiple, Exponents}
use Rattle.monomial_order.specs.Limits.{degree_max}
use Rattle.monomial_order.specs.MonomialOrder.{MonomialOrder}
use Rattle.degree_queue.specs.DegreeQueue.{list_of}
use Rattle.quotient_gb.specs.declared.critical_pair.CriticalPair.{CriticalPair}

module _ (O : MonomialOrder) (ms : List Exponents) where
  -- the degree of the least common multiple of the leads at two indices
  abbrev pub pair_degree : ℕ → ℕ → ℕ
  pair_degree i j = O.degree (least_common_multiple (slice_index_or ms i []) (slice_index_or ms j []))

  -- the critical pair of the leads at two indices
  abbrev pub pair_at : ℕ → ℕ → CriticalPair
  pair_at i j = record { first = i; second = j; degree = pair_degree i j }

  -- a critical pair of two of the leads
  pub record IsCriticalPair (w : CriticalPair) : Type 0 where
    pub order : w.first < w.second
    pub within : w.second < length ms
    pub degree : w.degree ≡ pair_degree w.first w.second

  -- the leads at two indices are coprime, or their critical pair is in the list
  abbrev pub IsCoprimeOrListed : List CriticalPair → ℕ → ℕ → Type 0
  IsCoprimeOrListed pairs i j = AreCoprime (slice_index_or ms i []) (slice_index_or ms j []) ⊎ Contains pairs (pair_at i j)

  -- critical pairs of the leads: those of each lead at an index from start on, before stop, with each lead before it, but
  -- for those of coprime leads
  pub record HasPairs (start stop : ℕ) (pairs : List CriticalPair) : Type 0 where
    pub each : (w : CriticalPair) → Contains pairs w → IsCriticalPair w
    pub listed : (i j : ℕ) → i < j → start ≤ j → j < stop → IsCoprimeOrListed pairs i j

  -- the critical pairs of the leads at the degree d, but for those of coprime leads
  pub record HasPairsAt (d : ℕ) (pairs : List CriticalPair) : Type 0 where
    pub each : (w : CriticalPair) → Contains pairs w → IsCriticalPair w
    pub listed : (i j : ℕ) → i < j → j < length ms → pair_degree i j ≡ d → IsCoprimeOrListed pairs i j

  -- the critical pairs of the leads above the degree c, but for those of coprime leads
  pub record HasPairsAbove (c : ℕ) (pairs : List CriticalPair) : Type 0 where
    pub each : (w : CriticalPair) → Contains pairs w → IsCriticalPair w
    pub listed : (i j : ℕ) → i < j → j < length ms → c < pair_degree i j → IsCoprimeOrListed pairs i j

-- the queue has what it had, and those of these pairs whose degrees it can have
pub record IsFilled (old : List (List CriticalPair)) (pairs : List CriticalPair) (new : List (List CriticalPair)) : Type 0 where
  pub kept : (d : ℕ) (w : CriticalPair) → Contains (list_of old d) w → Contains (list_of new d) w
  pub added : (w : CriticalPair) → Contains pairs w → w.degree ≤ degree_max → Contains (list_of new w.degree) w
  pub only : (d : ℕ) (w : CriticalPair) → Contains (list_of new d) w → Contains (list_of old d) w ⊎ Contains pairs w

-- the queue has the pairs of each degree above c that a quotient goes to
pub record Waits (c : ℕ) (pairs : List CriticalPair) (queue : List (List CriticalPair)) : Type 0 where
  pub all : (w : CriticalPair) → Contains pairs w → c < w.degree → w.degree ≤ degree_max → Contains (list_of queue w.degree) w
  pub only : (d : ℕ) (w : CriticalPair) → c < d → Contains (list_of queue d) w → Contains pairs w
