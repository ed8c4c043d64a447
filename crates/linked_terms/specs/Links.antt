-- Nodes that are linked by index.
use Rattle.std.specs.Prelude.{◌≡◌, ℕ, zero, suc, ◌+◌, ◌-◌, ◌<◌, ◌≤◌, List, [], ◌∷◌, length, filter_map, slice_get, nat_eq, if◌then◌else◌, Option, Some, None, IsSome}
use Rattle.linked_terms.specs.declared.cursor_list.Node.{Node}

-- how often i is in a list
abbrev pub times_in : ℕ → List ℕ → ℕ
times_in i [] = 0
times_in i (j ∷ p) = (if nat_eq j i then 1 else 0) + times_in i p

-- n indexes from i on, if `next` leads from each to the one after it
abbrev pub walk : (ℕ → ℕ) → ℕ → ℕ → List ℕ
walk next zero i = []
walk next (suc n) i = i ∷ walk next n (next i)

-- the index that follows this walk
abbrev pub past : (ℕ → ℕ) → ℕ → ℕ → ℕ
past next zero i = i
past next (suc n) i = past next n (next i)

-- each index below n is once in one of the three lists, and no other index is in them
pub record IsPartition (n : ℕ) (p q r : List ℕ) : Type 0 where
  pub once : (i : ℕ) → i < n → times_in i p + (times_in i q + times_in i r) ≡ 1
  pub outside : (i : ℕ) → n ≤ i → times_in i p + (times_in i q + times_in i r) ≡ 0

-- The links part n nodes into those before the cursor, those after it and the spare ones: each node is in one of the
-- three, once, so that no link leads in a circle. `left` is the last node before the cursor.
pub record IsLinked (next : ℕ → ℕ) (n head left right free before after spare : ℕ) : Type 0 where
  pub partition : IsPartition n (walk next before head) (walk next after right) (walk next spare free)
  pub counted : before + (after + spare) ≡ n
  pub meets : past next before head ≡ right
  pub last : 0 < before → past next (before - 1) head ≡ left

module _ {T : Type 0} where
  abbrev pub next_of : Option (Node T) → ℕ
  next_of None = 0
  next_of (Some node) = node.next

  abbrev pub item_of : Option (Node T) → Option T
  item_of None = None
  item_of (Some node) = node.item

  -- the index in the node i
  abbrev pub next_at : List (Node T) → ℕ → ℕ
  next_at nodes i = next_of (slice_get nodes i)

  -- the item in the node i
  abbrev pub item_at : List (Node T) → ℕ → Option T
  item_at nodes i = item_of (slice_get nodes i)

  -- the items of n nodes from the node i on
  abbrev pub items : List (Node T) → ℕ → ℕ → List T
  items nodes n i = filter_map (item_at nodes) (walk (next_at nodes) n i)

  -- the nodes are linked, and those that are not spare have items
  pub record IsSound (nodes : List (Node T)) (head left right free before after spare : ℕ) : Type 0 where
    pub links : IsLinked (next_at nodes) (length nodes) head left right free before after spare
    pub full : (i : ℕ) → i < length nodes → times_in i (walk (next_at nodes) spare free) ≡ 0 → IsSome (item_at nodes i)
    pub vacant : (i : ℕ) → 1 ≤ times_in i (walk (next_at nodes) spare free) → item_at nodes i ≡ None
