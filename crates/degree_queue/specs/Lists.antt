-- One doubly linked list for each degree and a list of free nodes, over one list of nodes.
use Rattle.std.specs.Prelude.{◌≡◌, ℕ, ◌<◌, List, ◌++◌, length, map, slice_index_or, IsSome, IsNone}
use Rattle.std.specs.List.{flat_map, filter_map}
use Rattle.degree_queue.specs.declared.links.Node.{Node}
use Rattle.degree_queue.specs.declared.links.Ends.{Ends}
use Rattle.degree_queue.specs.declared.lists.Lists.{Lists}
use Rattle.degree_queue.specs.Links.{no_ends, times, path_of, item_at, IsList}

-- the ends of the list of a degree
abbrev pub ends_at : List Ends → ℕ → Ends
ends_at heads degree = slice_index_or heads degree no_ends

module _ {T : Type 0} where
  -- the items of the nodes with these indexes
  abbrev pub items_on : List (Node T) → List ℕ → List T
  items_on nodes p = filter_map (item_at nodes) p

  -- the indexes of the nodes on the lists of all degrees
  abbrev pub listed : List (Node T) → List Ends → List ℕ
  listed nodes heads = flat_map (path_of nodes) heads

  -- each node is on exactly one list, that of a degree or the free list; exactly the free nodes have no item
  pub record IsPartition (nodes : List (Node T)) (heads : List Ends) (free : Ends) : Type 0 where
    pub lists : (degree : ℕ) → IsList nodes (ends_at heads degree) (path_of nodes (ends_at heads degree))
    pub free_list : IsList nodes free (path_of nodes free)
    pub once : (i : ℕ) → i < length nodes → times i (listed nodes heads ++ path_of nodes free) ≡ 1
    pub within : (i : ℕ) → 0 < times i (listed nodes heads ++ path_of nodes free) → i < length nodes
    pub full : (i : ℕ) → 0 < times i (listed nodes heads) → IsSome (item_at nodes i)
    pub empty : (i : ℕ) → 0 < times i (path_of nodes free) → IsNone (item_at nodes i)

  abbrev pub IsSound : Lists T → Type 0
  IsSound l = IsPartition l.nodes.items l.heads.items l.free

  -- the items of each degree, in order
  abbrev pub lists_of : Lists T → List (List T)
  lists_of l = map (λ ends. items_on l.nodes.items (path_of l.nodes.items ends)) l.heads.items

  -- an item can be put into the degree without more memory
  pub record HasRoom (degree : ℕ) (l : Lists T) : Type 0 where
    pub node : 0 < l.free.len
    pub ends : degree < length l.heads.items
