-- What it means for each node to be on exactly one list.
use Rattle.std.proofs.Common.{◌≡◌, ◌≢◌, ℕ, ◌+◌, ◌<◌, ◌≤◌, List, [], ◌++◌, length, map, refl, sym, ap, ◌∙◌, inl, inr, arith}
use Rattle.std.specs.List.{slice_index}
use Rattle.std.specs.Option.{IsNone}
use Rattle.std.proofs.lemmas.Bool.{cases_lt}
use Rattle.std.proofs.lemmas.List.{get_or_past, length-map}
use Rattle.degree_queue.specs.declared.links.Node.{Node}
use Rattle.degree_queue.specs.declared.links.Ends.{Ends}
use Rattle.degree_queue.specs.DegreeQueue.{list_of}
use Rattle.degree_queue.specs.Links.{no_ends, times, path_of, item_at, IsApart}
use Rattle.degree_queue.specs.Lists.{ends_at, items_on, listed, IsPartition}
use Rattle.degree_queue.proofs.Counting.{times-append, times-slice_index}
use Rattle.degree_queue.proofs.Items.{AllFull, length-filter_map}
use Rattle.degree_queue.proofs.Listed.{get_or-map_no, times_one, times_two}

module _ {T : Type 0} (nodes : List (Node T)) (heads : List Ends) where
  -- the items of each degree
  abbrev pub all_items : List (List T)
  all_items = map (λ (ends : Ends). items_on nodes (path_of nodes ends)) heads

  abbrev pub path_at : ℕ → List ℕ
  path_at degree = path_of nodes (ends_at heads degree)

  pub list_of_is : (d : ℕ) → list_of all_items d ≡ items_on nodes (path_at d)
  list_of_is d = get_or-map_no no_ends (λ (ends : Ends). items_on nodes (path_of nodes ends)) [] heads d refl

  -- a degree with an item has ends
  pub degree_within : (d k : ℕ) → k < length (list_of all_items d) → d < length heads
  degree_within d k inside =
      elim (cases_lt d (length heads)) [
        | inl lower ↦ lower
        | inr upper ↦ absurd (omega (arith, ap length (get_or_past all_items d [] (omega (arith, length-map heads (λ (ends : Ends). items_on nodes (path_of nodes ends)))))))
      ]

  pub path_le : (i d : ℕ) → times i (path_at d) ≤ times i (listed nodes heads)
  path_le i d = times_one no_ends i (path_of nodes) refl heads d

  pub two_paths_le : (i c d : ℕ) → c ≢ d → times i (path_at c) + times i (path_at d) ≤ times i (listed nodes heads)
  two_paths_le i c d differ = times_two no_ends i (path_of nodes) refl heads c d differ

module _ {T : Type 0} (nodes : List (Node T)) (heads : List Ends) (free : Ends) (sound : IsPartition nodes heads free) where
  pub at_most_once : (i : ℕ) → times i (listed nodes heads) + times i (path_of nodes free) ≤ 1
  at_most_once i =
      elim (cases_lt 0 (times i (listed nodes heads ++ path_of nodes free))) [
        | inl counted ↦ omega (arith, sound.once i (sound.within i counted), times-append i (listed nodes heads) (path_of nodes free))
        | inr none ↦ omega (arith, times-append i (listed nodes heads) (path_of nodes free))
      ]

  pub within_nodes : (i : ℕ) → 0 < times i (listed nodes heads) + times i (path_of nodes free) → i < length nodes
  within_nodes i counted = sound.within i (omega (arith, times-append i (listed nodes heads) (path_of nodes free)))

  module _ (d : ℕ) where
    path : List ℕ
    path = path_of nodes (ends_at heads d)

    pub IsApart-path : IsApart (length nodes) (path_of nodes (ends_at heads d))
    IsApart-path = record {
      once = λ i. omega (arith, at_most_once i, path_le nodes heads i d);
      within = λ i counted. within_nodes i (omega (arith, path_le nodes heads i d));
    }

    pub IsApart-path_free : IsApart (length nodes) (path_of nodes (ends_at heads d) ++ path_of nodes free)
    IsApart-path_free = record {
      once = λ i. omega (arith, at_most_once i, path_le nodes heads i d, times-append i (path_of nodes (ends_at heads d)) (path_of nodes free));
      within = λ i counted. within_nodes i (omega (arith, path_le nodes heads i d, times-append i (path_of nodes (ends_at heads d)) (path_of nodes free)));
    }

    pub IsApart-free_path : IsApart (length nodes) (path_of nodes free ++ path_of nodes (ends_at heads d))
    IsApart-free_path = record {
      once = λ i. omega (arith, at_most_once i, path_le nodes heads i d, times-append i (path_of nodes free) (path_of nodes (ends_at heads d)));
      within = λ i counted. within_nodes i (omega (arith, path_le nodes heads i d, times-append i (path_of nodes free) (path_of nodes (ends_at heads d))));
    }

    pub path_full : AllFull (item_at nodes) (path_of nodes (ends_at heads d))
    path_full k inside = sound.full _ (omega (arith, times-slice_index (path_of nodes (ends_at heads d)) k inside, path_le nodes heads (slice_index (path_of nodes (ends_at heads d)) k) d))

    pub length-list : length (list_of (all_items nodes heads) d) ≡ (ends_at heads d).len
    length-list =
        ap length (list_of_is nodes heads d) ∙ length-filter_map (item_at nodes) (path_of nodes (ends_at heads d)) path_full ∙ sym (sound.lists d).len

    pub number_within : (k : ℕ) → k < length (list_of (all_items nodes heads) d) → k < length (path_of nodes (ends_at heads d))
    number_within k inside = omega (arith, length-list, (sound.lists d).len)

  pub free_empty : (k : ℕ) → k < length (path_of nodes free) → IsNone (item_at nodes (slice_index (path_of nodes free) k))
  free_empty k inside = sound.empty _ (times-slice_index (path_of nodes free) k inside)

  pub free_within : (k : ℕ) → k < length (path_of nodes free) → slice_index (path_of nodes free) k < length nodes
  free_within k inside = within_nodes _ (omega (arith, times-slice_index (path_of nodes free) k inside))
