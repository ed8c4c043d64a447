-- One more free node, and ends for more degrees.
use Rattle.std.proofs.Common.{◌≡◌, ℕ, ◌+◌, ◌<◌, List, [], ◌∷◌, ◌++◌, Option, None, length, get_or, replicate, refl, sym, ap, ◌∙◌, inl, inr, arith, subst}
use Rattle.std.specs.List.{slice_index}
use Rattle.std.specs.Option.{IsSome, IsNone}
use Rattle.std.proofs.lemmas.Bool.{cases_eq, cases_lt}
use Rattle.std.proofs.lemmas.List.{get_or_append_left, get_or_push, length_push}
use Rattle.degree_queue.specs.declared.links.Node.{Node}
use Rattle.degree_queue.specs.declared.links.Ends.{Ends}
use Rattle.degree_queue.specs.DegreeQueue.{list_of}
use Rattle.degree_queue.specs.Links.{no_ends, no_node, times, path_of, item_at, IsList}
use Rattle.degree_queue.specs.Lists.{ends_at, items_on, listed, IsPartition}
use Rattle.degree_queue.proofs.Counting.{here, here_same, here_other, times-append, times-cons, times-slice_index}
use Rattle.degree_queue.proofs.Items.{filter_map_same}
use Rattle.degree_queue.proofs.Listed.{map_same, flat_map_same, flat_map-empty, get_or-more_empty}
use Rattle.degree_queue.proofs.Partition.{all_items, list_of_is, path_le, within_nodes}
use Rattle.degree_queue.proofs.Paths.{path_of_is, IsList-path_of, IsList-same_links}

-- one more node, the only free one
module _ {T : Type 0} (nodes : List (Node T)) (heads : List Ends) (free : Ends) (x : Node T) (sound : IsPartition nodes heads free) (none_free : free.len ≡ 0) (without : x.item ≡ None) where
  abbrev n : ℕ
  n = length nodes

  abbrev more : List (Node T)
  more = nodes ++ x ∷ []

  abbrev only : Ends
  only = record { first = n; last = n; len = 1 }

  same_node : (i : ℕ) → i < n → get_or more i no_node ≡ get_or nodes i no_node
  same_node i below = get_or_append_left nodes (x ∷ []) no_node i below

  none_counted : (i : ℕ) → times i (path_of nodes free) ≡ 0
  none_counted i = ap (λ (len : ℕ). times i (path_of nodes (record free { len = len }))) none_free

  module _ (c : ℕ) where
    abbrev path : List ℕ
    path = path_of nodes (ends_at heads c)

    below : (k : ℕ) → k < length path → slice_index path k < n
    below k inside = within_nodes nodes heads free sound _ (omega (arith, times-slice_index path k inside, path_le nodes heads (slice_index path k) c))

    old_list : IsList more (ends_at heads c) path
    old_list =
        IsList-same_links nodes more (ends_at heads c) path (λ k inside. ap (λ (m : Node T). m.next) (same_node _ (below k inside))) (λ k inside. ap (λ (m : Node T). m.prev) (same_node _ (below k inside))) (sound.lists c)

    old_path : path_of more (ends_at heads c) ≡ path
    old_path = path_of_is more (ends_at heads c) path old_list

    old_items : items_on more (path_of more (ends_at heads c)) ≡ items_on nodes path
    old_items = ap (items_on more) old_path ∙ filter_map_same (item_at more) (item_at nodes) path (λ k inside. ap (λ (m : Node T). m.item) (same_node _ (below k inside)))

  same_listed : listed more heads ≡ listed nodes heads
  same_listed = flat_map_same no_ends (path_of more) (path_of nodes) heads old_path

  total : (i : ℕ) → times i (listed more heads ++ path_of more only) ≡ times i (listed nodes heads) + here i n
  total i = omega (arith, times-append i (listed more heads) (n ∷ []), ap (times i) same_listed, times-cons i n [])

  old_total : (i : ℕ) → times i (listed nodes heads ++ path_of nodes free) ≡ times i (listed nodes heads)
  old_total i = omega (arith, times-append i (listed nodes heads) (path_of nodes free), none_counted i)

  pub same_lists : all_items more heads ≡ all_items nodes heads
  same_lists = map_same no_ends (λ (e : Ends). items_on more (path_of more e)) (λ (e : Ends). items_on nodes (path_of nodes e)) heads old_items

  pub IsPartition-one_free : IsPartition (nodes ++ x ∷ []) heads (record { first = length nodes; last = length nodes; len = 1 })
  IsPartition-one_free = record {
    lists = λ c. IsList-path_of more (ends_at heads c) _ (old_list c);
    free_list = record { len = refl; first = λ some. refl; last = λ some. refl; next = λ k inside. absurd (omega arith); prev = λ k inside. absurd (omega arith) };
    once = once;
    within = within;
    full = λ i counted. subst (λ (o : Option T). IsSome o) (sym (ap (λ (m : Node T). m.item) (same_node i (was_below i (omega (arith, ap (times i) same_listed)))))) (sound.full i (omega (arith, ap (times i) same_listed)));
    empty = λ i counted. elim (cases_eq i n) [
      | inl same ↦ subst (λ (o : Option T). IsNone o) (sym (ap (λ (m : Node T). m.item) (get_or_push nodes x no_node i (sym same)) ∙ without)) refl
      | inr other ↦ absurd (omega (arith, times-cons i n [], here_other i n (λ same. other (sym same))))
    ];
  }
    where
      was_below : (i : ℕ) → 0 < times i (listed nodes heads) → i < n
      was_below i counted = within_nodes nodes heads free sound i (omega arith)

      none_listed : (i : ℕ) → i ≡ n → times i (listed nodes heads) ≡ 0
      none_listed i same =
          elim (cases_lt 0 (times i (listed nodes heads))) [
            | inl counted ↦ absurd (omega (arith, was_below i counted))
            | inr none ↦ omega arith
          ]

      once : (i : ℕ) → i < length more → times i (listed more heads ++ path_of more only) ≡ 1
      once i inside =
          elim (cases_eq i n) [
            | inl same ↦ omega (arith, total i, ap (here i) (sym same) ∙ here_same i, none_listed i same)
            | inr other ↦ omega (arith, total i, here_other i n (λ same. other (sym same)), old_total i, sound.once i (omega (arith, length_push nodes x)))
          ]

      within : (i : ℕ) → 0 < times i (listed more heads ++ path_of more only) → i < length more
      within i counted =
          elim (cases_eq i n) [
            | inl same ↦ omega (arith, length_push nodes x)
            | inr other ↦ omega (arith, length_push nodes x, was_below i (omega (arith, total i, here_other i n (λ same. other (sym same)))))
          ]

-- ends for more degrees
module _ {T : Type 0} (nodes : List (Node T)) (heads : List Ends) (free : Ends) (m : ℕ) where
  abbrev more_heads : List Ends
  more_heads = heads ++ replicate m no_ends

  same_ends : (c : ℕ) → ends_at more_heads c ≡ ends_at heads c
  same_ends c = get_or-more_empty no_ends heads m c

  all_listed : listed nodes more_heads ≡ listed nodes heads
  all_listed = flat_map-empty no_ends (path_of nodes) heads m refl

  pub same_items : (c : ℕ) → list_of (all_items nodes (heads ++ replicate m no_ends)) c ≡ list_of (all_items nodes heads) c
  same_items c = list_of_is nodes more_heads c ∙ ap (λ (e : Ends). items_on nodes (path_of nodes e)) (same_ends c) ∙ sym (list_of_is nodes heads c)

  pub IsPartition-more_ends : IsPartition nodes heads free → IsPartition nodes (heads ++ replicate m no_ends) free
  IsPartition-more_ends sound = record {
    lists = λ c. subst (λ (e : Ends). IsList nodes e (path_of nodes e)) (sym (same_ends c)) (sound.lists c);
    free_list = sound.free_list;
    once = λ i inside. ap (λ (p : List ℕ). times i (p ++ path_of nodes free)) all_listed ∙ sound.once i inside;
    within = λ i counted. sound.within i (subst (λ (p : List ℕ). 0 < times i (p ++ path_of nodes free)) all_listed counted);
    full = λ i counted. sound.full i (subst (λ (p : List ℕ). 0 < times i p) all_listed counted);
    empty = sound.empty;
  }
