-- One list of a degree and the free list change.
use Rattle.std.proofs.Common.{◌≡◌, ◌≢◌, ℕ, ◌+◌, ◌<◌, List, ◌++◌, Option, length, set, sym, ap, ◌∙◌, inl, inr, arith, subst}
use Rattle.std.specs.List.{slice_index}
use Rattle.std.specs.Option.{IsSome, IsNone}
use Rattle.std.proofs.lemmas.Bool.{cases_eq, cases_lt}
use Rattle.std.proofs.lemmas.List.{get_or-set_same, get_or-set_other}
use Rattle.degree_queue.specs.declared.links.Node.{Node}
use Rattle.degree_queue.specs.declared.links.Ends.{Ends}
use Rattle.degree_queue.specs.DegreeQueue.{list_of}
use Rattle.degree_queue.specs.Links.{no_ends, times, path_of, next_at, prev_at, item_at, IsList}
use Rattle.degree_queue.specs.Lists.{ends_at, items_on, listed, IsPartition}
use Rattle.degree_queue.proofs.Counting.{times-append, times-slice_index}
use Rattle.degree_queue.proofs.Items.{filter_map_same}
use Rattle.degree_queue.proofs.Listed.{times-set}
use Rattle.degree_queue.proofs.Partition.{all_items, list_of_is, two_paths_le, at_most_once}
use Rattle.degree_queue.proofs.Paths.{path_of_is, IsList-path_of, IsList-same_links}

-- the list of the degree and the free list are now p and q
pub record Changes {T : Type 0} (nodes new : List (Node T)) (old_p old_q p q : List ℕ) (ends free : Ends) : Type 0 where
  pub long : length new ≡ length nodes
  pub list : IsList new ends p
  pub free_list : IsList new free q
  pub balance : (i : ℕ) → times i p + times i q ≡ times i old_p + times i old_q
  pub next : (i : ℕ) → times i old_p + times i old_q ≡ 0 → next_at new i ≡ next_at nodes i
  pub prev : (i : ℕ) → times i old_p + times i old_q ≡ 0 → prev_at new i ≡ prev_at nodes i
  pub items : (i : ℕ) → times i old_p + times i old_q ≡ 0 → item_at new i ≡ item_at nodes i
  pub full : (i : ℕ) → 0 < times i p → IsSome (item_at new i)
  pub empty : (i : ℕ) → 0 < times i q → IsNone (item_at new i)

module _ {T : Type 0} (nodes new : List (Node T)) (heads : List Ends) (free new_ends new_free : Ends) (d : ℕ) (p q : List ℕ) (sound : IsPartition nodes heads free) (inside : d < length heads) (changes : Changes nodes new (path_of nodes (ends_at heads d)) (path_of nodes free) p q new_ends new_free) where
  abbrev old_p : List ℕ
  old_p = path_of nodes (ends_at heads d)

  abbrev old_q : List ℕ
  old_q = path_of nodes free

  abbrev new_heads : List Ends
  new_heads = set heads d new_ends

  module _ (c : ℕ) (other : c ≢ d) where
    abbrev path : List ℕ
    path = path_of nodes (ends_at heads c)

    outside : (k : ℕ) → k < length path → times (slice_index path k) old_p + times (slice_index path k) old_q ≡ 0
    outside k within =
        omega (arith, times-slice_index path k within, two_paths_le nodes heads (slice_index path k) c d other, at_most_once nodes heads free sound (slice_index path k))

    same_list : IsList new (ends_at heads c) path
    same_list =
        IsList-same_links nodes new (ends_at heads c) path (λ k within. changes.next _ (outside k within)) (λ k within. changes.prev _ (outside k within)) (sound.lists c)

    same_path : path_of new (ends_at heads c) ≡ path
    same_path = path_of_is new (ends_at heads c) path same_list

    same_items : items_on new (path_of new (ends_at heads c)) ≡ items_on nodes path
    same_items = ap (items_on new) same_path ∙ filter_map_same (item_at new) (item_at nodes) path (λ k within. changes.items _ (outside k within))

  new_path : path_of new new_ends ≡ p
  new_path = path_of_is new new_ends p changes.list

  new_free_path : path_of new new_free ≡ q
  new_free_path = path_of_is new new_free q changes.free_list

  counts : (i : ℕ) → times i (listed new new_heads) + times i old_p ≡ times i (listed nodes heads) + times i p
  counts i = times-set no_ends i (path_of nodes) (path_of new) heads d new_ends inside same_path ∙ ap (λ (xs : List ℕ). times i (listed nodes heads) + times i xs) new_path

  total : (i : ℕ) → times i (listed new new_heads ++ path_of new new_free) ≡ times i (listed nodes heads ++ old_q)
  total i =
      omega (arith, counts i, changes.balance i, times-append i (listed new new_heads) (path_of new new_free), times-append i (listed nodes heads) old_q, ap (times i) new_free_path)

  pub IsPartition-changed : IsPartition new (set heads d new_ends) new_free
  IsPartition-changed = record {
    lists = lists;
    free_list = IsList-path_of new new_free q changes.free_list;
    once = λ i below. total i ∙ sound.once i (omega (arith, changes.long));
    within = λ i counted. omega (arith, changes.long, sound.within i (omega (arith, total i)));
    full = full;
    empty = λ i counted. changes.empty i (omega (arith, ap (times i) new_free_path));
  }
    where
      lists : (c : ℕ) → IsList new (ends_at new_heads c) (path_of new (ends_at new_heads c))
      lists c =
          elim (cases_eq c d) [
            | inl same ↦ subst (λ (e : Ends). IsList new e (path_of new e)) (sym (ap (ends_at new_heads) same ∙ get_or-set_same heads d new_ends no_ends inside)) (IsList-path_of new new_ends p changes.list)
            | inr other ↦ subst (λ (e : Ends). IsList new e (path_of new e)) (sym (get_or-set_other heads d c new_ends no_ends other)) (IsList-path_of new (ends_at heads c) (path_of nodes (ends_at heads c)) (same_list c other))
          ]

      full : (i : ℕ) → 0 < times i (listed new new_heads) → IsSome (item_at new i)
      full i counted =
          elim (cases_lt 0 (times i p)) [
            | inl on ↦ changes.full i on
            | inr off ↦
                let was : times i old_p + times i old_q ≡ 0 = omega (arith, counts i, at_most_once nodes heads free sound i) in
                subst (λ (o : Option T). IsSome o) (sym (changes.items i was)) (sound.full i (omega (arith, counts i)))
          ]

  pub other_lists : (c : ℕ) → c ≢ d → list_of (all_items new (set heads d new_ends)) c ≡ list_of (all_items nodes heads) c
  other_lists c other =
      list_of_is new new_heads c ∙ ap (λ (e : Ends). items_on new (path_of new e)) (get_or-set_other heads d c new_ends no_ends other) ∙ same_items c other ∙ sym (list_of_is nodes heads c)

  pub changed_list : list_of (all_items new (set heads d new_ends)) d ≡ items_on new p
  changed_list =
      list_of_is new new_heads d ∙ ap (λ (e : Ends). items_on new (path_of new e)) (get_or-set_same heads d new_ends no_ends inside) ∙ ap (items_on new) new_path
