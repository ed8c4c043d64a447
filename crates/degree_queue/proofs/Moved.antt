-- A node that moves between a list of a degree and the free list.
use Rattle.std.proofs.Common.{◌≡◌, ◌≢◌, ◌⊎◌, ℕ, ◌+◌, ◌<◌, ◌≤◌, List, [], ◌∷◌, ◌++◌, Option, Some, None, length, refl, sym, ap, ◌∙◌, inl, inr, arith, subst}
use Rattle.std.specs.List.{slice_index, slice_get, remove}
use Rattle.std.specs.Option.{IsSome, IsNone}
use Rattle.std.proofs.lemmas.Bool.{cases_eq}
use Rattle.degree_queue.specs.declared.links.Node.{Node}
use Rattle.degree_queue.specs.declared.links.Ends.{Ends}
use Rattle.degree_queue.specs.DegreeQueue.{list_of}
use Rattle.degree_queue.specs.Links.{times, path_of, item_at, Moves}
use Rattle.degree_queue.specs.Lists.{ends_at, items_on, IsPartition}
use Rattle.degree_queue.proofs.Changing.{Changes}
use Rattle.degree_queue.proofs.Counting.{here, here_same, here_other, times-append, times-cons, times-remove, times-slice_index}
use Rattle.degree_queue.proofs.Items.{filter_map_same, filter_map_push, filter_map-remove, slice_get-filter_map}
use Rattle.degree_queue.proofs.Partition.{all_items, list_of_is, path_le, at_most_once, path_full}

-- the counts of two lists of indexes, of which one loses what the other gains
module _ (p q : List ℕ) (k at : ℕ) (inside : k < length p) (at_is : at ≡ slice_index p k) where
  counted : 0 < times at p
  counted = subst (λ (i : ℕ). 0 < times i p) (sym at_is) (times-slice_index p k inside)

  left : (i : ℕ) → times i (remove p k) + here i at ≡ times i p
  left i = ap (λ (j : ℕ). times i (remove p k) + here i j) at_is ∙ times-remove i p k inside

  right : (i : ℕ) → times i (q ++ at ∷ []) ≡ times i q + here i at
  right i = omega (arith, times-append i q (at ∷ []), times-cons i at [])

  pub balanced : (i : ℕ) → times i (remove p k) + times i (q ++ at ∷ []) ≡ times i p + times i q
  balanced i = omega (arith, left i, right i)

  pub not_moved : (i : ℕ) → times i p + times i q ≡ 0 → i ≢ at
  not_moved i none same = omega (arith, subst (λ (j : ℕ). 0 < times j p) (sym same) counted)

  pub stays : (i : ℕ) → times i p + times i q ≤ 1 → 0 < times i (remove p k) → i ≢ at
  stays i once more same = omega (arith, left i, ap (here i) (sym same) ∙ here_same i)

  pub was_there : (i : ℕ) → times i p + times i q ≤ 1 → 0 < times i q → i ≢ at
  was_there i once more same = omega (arith, left i, ap (here i) (sym same) ∙ here_same i)

  pub from_less : (i : ℕ) → 0 < times i (remove p k) → 0 < times i p
  from_less i more = omega (arith, left i)

  pub joined_cases : (i : ℕ) → 0 < times i (q ++ at ∷ []) → (i ≡ at) ⊎ (0 < times i q)
  joined_cases i more =
      elim (cases_eq i at) [
        | inl same ↦ inl same
        | inr other ↦ inr (omega (arith, right i, here_other i at (λ same. other (sym same))))
      ]

module _ {T : Type 0} (nodes new : List (Node T)) (heads : List Ends) (free new_ends new_free : Ends) (d k at : ℕ) (sound : IsPartition nodes heads free) where
  abbrev path : List ℕ
  path = path_of nodes (ends_at heads d)

  abbrev unused : List ℕ
  unused = path_of nodes free

  once : (i : ℕ) → times i path + times i unused ≤ 1
  once i = omega (arith, at_most_once nodes heads free sound i, path_le nodes heads i d)

  once_turned : (i : ℕ) → times i unused + times i path ≤ 1
  once_turned i = omega (arith, once i)

  full_path : (i : ℕ) → 0 < times i path → IsSome (item_at nodes i)
  full_path i counts = sound.full i (omega (arith, path_le nodes heads i d))

  -- a free node gets an item
  module _ (item : T) (inside : k < length unused) (at_is : at ≡ slice_index unused k) (moves : Moves unused path k at (Some item) nodes new new_free new_ends) where
    apart : (i : ℕ) → times i path + times i unused ≡ 0 → times i (unused ++ path) ≡ 0
    apart i none = omega (arith, times-append i unused path)

    pub put_changes : Changes nodes new path unused (path ++ at ∷ []) (remove unused k) new_ends new_free
    put_changes = record {
      long = moves.long;
      list = moves.joins;
      free_list = moves.leaves;
      balance = λ i. omega (arith, balanced unused path k at inside at_is i);
      next = λ i none. moves.next i (apart i none);
      prev = λ i none. moves.prev i (apart i none);
      items = λ i none. moves.others i (not_moved unused path k at inside at_is i (omega arith));
      full = λ i counts. elim (joined_cases unused path k at inside at_is i counts) [
        | inl same ↦ subst (λ (o : Option T). IsSome o) (sym (ap (item_at new) same ∙ moves.here)) refl
        | inr on ↦ subst (λ (o : Option T). IsSome o) (sym (moves.others i (was_there unused path k at inside at_is i (once_turned i) on))) (full_path i on)
      ];
      empty = λ i counts. subst (λ (o : Option T). IsNone o) (sym (moves.others i (stays unused path k at inside at_is i (once_turned i) counts))) (sound.empty i (from_less unused path k at inside at_is i counts));
    }

    pub put_items : items_on new (path ++ at ∷ []) ≡ list_of (all_items nodes heads) d ++ item ∷ []
    put_items =
        filter_map_push (item_at new) path at item moves.here
        ∙ ap (λ (xs : List T). xs ++ item ∷ []) (filter_map_same (item_at new) (item_at nodes) path (λ j within. moves.others _ (was_there unused path k at inside at_is _ (once_turned _) (times-slice_index path j within))) ∙ sym (list_of_is nodes heads d))

  -- a node of the degree loses its item
  module _ (inside : k < length path) (at_is : at ≡ slice_index path k) (moves : Moves path unused k at None nodes new new_ends new_free) where
    apart_turned : (i : ℕ) → times i path + times i unused ≡ 0 → times i (path ++ unused) ≡ 0
    apart_turned i none = omega (arith, times-append i path unused)

    pub take_changes : Changes nodes new path unused (remove path k) (unused ++ at ∷ []) new_ends new_free
    take_changes = record {
      long = moves.long;
      list = moves.leaves;
      free_list = moves.joins;
      balance = balanced path unused k at inside at_is;
      next = λ i none. moves.next i (apart_turned i none);
      prev = λ i none. moves.prev i (apart_turned i none);
      items = λ i none. moves.others i (not_moved path unused k at inside at_is i none);
      full = λ i counts. subst (λ (o : Option T). IsSome o) (sym (moves.others i (stays path unused k at inside at_is i (once i) counts))) (full_path i (from_less path unused k at inside at_is i counts));
      empty = λ i counts. elim (joined_cases path unused k at inside at_is i counts) [
        | inl same ↦ subst (λ (o : Option T). IsNone o) (sym (ap (item_at new) same ∙ moves.here)) refl
        | inr on ↦ subst (λ (o : Option T). IsNone o) (sym (moves.others i (was_there path unused k at inside at_is i (once i) on))) (sound.empty i on)
      ];
    }

    pub take_items : items_on new (remove path k) ≡ remove (list_of (all_items nodes heads) d) k
    take_items =
        filter_map_same (item_at new) (item_at nodes) (remove path k) (λ j within. moves.others _ (stays path unused k at inside at_is _ (once _) (times-slice_index (remove path k) j within)))
        ∙ filter_map-remove (item_at nodes) path k (path_full nodes heads free sound d) inside
        ∙ ap (λ (xs : List T). remove xs k) (sym (list_of_is nodes heads d))

  pub item_read : k < length path → slice_get (list_of (all_items nodes heads) d) k ≡ item_at nodes (slice_index path k)
  item_read inside = ap (λ (xs : List T). slice_get xs k) (list_of_is nodes heads d) ∙ slice_get-filter_map (item_at nodes) path k (path_full nodes heads free sound d) inside
