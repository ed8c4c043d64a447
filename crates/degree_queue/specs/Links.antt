-- Doubly linked lists by index over one list of nodes.
use Rattle.std.specs.Prelude.{◌≡◌, ◌≢◌, ℕ, zero, suc, ◌-◌, ◌<◌, ◌≤◌, ◌==◌, List, [], ◌∷◌, ◌++◌, Option, None, length, remove, slice_index, slice_index_or, count_by}
use Rattle.degree_queue.specs.declared.links.Node.{Node}
use Rattle.degree_queue.specs.declared.links.Ends.{Ends}

-- the ends of an empty list
abbrev pub no_ends : Ends
no_ends = record { first = 0; last = 0; len = 0 }

-- how often a number is in a list
abbrev pub times : ℕ → List ℕ → ℕ
times i xs = count_by (λ x. x == i) xs

-- so many indexes, each the next of the one before it
abbrev pub path : (ℕ → ℕ) → ℕ → ℕ → List ℕ
path next at zero = []
path next at (suc n) = at ∷ path next (next at) n

-- indexes below n, none of them twice
pub record IsApart (n : ℕ) (p : List ℕ) : Type 0 where
  pub once : (i : ℕ) → times i p ≤ 1
  pub within : (i : ℕ) → 0 < times i p → i < n

module _ {T : Type 0} where
  abbrev pub no_node : Node T
  no_node = record { item = None; prev = 0; next = 0 }

  -- the link forwards of a node
  abbrev pub next_at : List (Node T) → ℕ → ℕ
  next_at nodes i = (slice_index_or nodes i no_node).next

  -- the link backwards of a node
  abbrev pub prev_at : List (Node T) → ℕ → ℕ
  prev_at nodes i = (slice_index_or nodes i no_node).prev

  -- the item of a node
  abbrev pub item_at : List (Node T) → ℕ → Option T
  item_at nodes i = (slice_index_or nodes i no_node).item

  -- the indexes of the nodes on a list, from its first node by the links forwards
  abbrev pub path_of : List (Node T) → Ends → List ℕ
  path_of nodes ends = path (next_at nodes) ends.first ends.len

  -- the ends and the links, both forwards and backwards, are those of this list of indexes
  pub record IsList (nodes : List (Node T)) (ends : Ends) (p : List ℕ) : Type 0 where
    pub len : ends.len ≡ length p
    pub first : 0 < length p → ends.first ≡ slice_index p 0
    pub last : 0 < length p → ends.last ≡ slice_index p (length p - 1)
    pub next : (k : ℕ) → suc k < length p → next_at nodes (slice_index p k) ≡ slice_index p (suc k)
    pub prev : (k : ℕ) → suc k < length p → prev_at nodes (slice_index p (suc k)) ≡ slice_index p k

  -- the list has a node number k
  pub record HasNode (nodes : List (Node T)) (ends : Ends) (k : ℕ) : Type 0 where
    pub list : IsList nodes ends (path_of nodes ends)
    pub apart : IsApart (length nodes) (path_of nodes ends)
    pub inside : k < ends.len

  -- node number k of a list, at this index, can move to another list, which has none of its nodes
  pub record CanMove (nodes : List (Node T)) (from to : Ends) (k at : ℕ) : Type 0 where
    pub from_list : IsList nodes from (path_of nodes from)
    pub to_list : IsList nodes to (path_of nodes to)
    pub apart : IsApart (length nodes) (path_of nodes from ++ path_of nodes to)
    pub inside : k < from.len
    pub at_is : at ≡ slice_index (path_of nodes from) k
    pub within : at < length nodes

  -- b is now the node after a; nothing else changes
  pub record Joins (old new : List (Node T)) (a b : ℕ) : Type 0 where
    pub long : length new ≡ length old
    pub next : next_at new a ≡ b
    pub prev : prev_at new b ≡ a
    pub other_next : (i : ℕ) → i ≢ a → next_at new i ≡ next_at old i
    pub other_prev : (i : ℕ) → i ≢ b → prev_at new i ≡ prev_at old i
    pub items : (i : ℕ) → item_at new i ≡ item_at old i

  -- only links of these nodes change
  pub record ChangesLinks (p : List ℕ) (old new : List (Node T)) : Type 0 where
    pub long : length new ≡ length old
    pub next : (i : ℕ) → times i p ≡ 0 → next_at new i ≡ next_at old i
    pub prev : (i : ℕ) → times i p ≡ 0 → prev_at new i ≡ prev_at old i
    pub items : (i : ℕ) → item_at new i ≡ item_at old i

  -- only the item of a node changes
  pub record SetsItem (at : ℕ) (item : Option T) (old new : List (Node T)) : Type 0 where
    pub long : length new ≡ length old
    pub next : (i : ℕ) → next_at new i ≡ next_at old i
    pub prev : (i : ℕ) → prev_at new i ≡ prev_at old i
    pub here : item_at new at ≡ item
    pub others : (i : ℕ) → i ≢ at → item_at new i ≡ item_at old i

  -- node number k of a list is now behind the last of another list, and has this item; no other list or item changes
  pub record Moves (from to : List ℕ) (k at : ℕ) (item : Option T) (old new : List (Node T)) (from_ends to_ends : Ends) : Type 0 where
    pub long : length new ≡ length old
    pub leaves : IsList new from_ends (remove from k)
    pub joins : IsList new to_ends (to ++ at ∷ [])
    pub next : (i : ℕ) → times i (from ++ to) ≡ 0 → next_at new i ≡ next_at old i
    pub prev : (i : ℕ) → times i (from ++ to) ≡ 0 → prev_at new i ≡ prev_at old i
    pub here : item_at new at ≡ item
    pub others : (i : ℕ) → i ≢ at → item_at new i ≡ item_at old i
