-- Puts and takes, as the code reads the nodes and the ends of a degree.
use Rattle.std.proofs.Common.{◌≡◌, ◌≢◌, ℕ, ◌-◌, ◌<◌, List, [], ◌∷◌, ◌++◌, Some, None, length, get_or, set, sym, ap, ◌∙◌, arith, subst}
use Rattle.std.specs.List.{slice_index, slice_get, remove}
use Rattle.std.specs.Option.{IsSome, IsNone}
use Rattle.std.proofs.lemmas.List.{get_or_default}
use Rattle.degree_queue.specs.declared.links.Node.{Node}
use Rattle.degree_queue.specs.declared.links.Ends.{Ends}
use Rattle.degree_queue.specs.DegreeQueue.{list_of}
use Rattle.degree_queue.specs.Links.{no_ends, no_node, path_of, item_at, IsApart, IsList, HasNode, CanMove, Moves}
use Rattle.degree_queue.specs.Lists.{ends_at, IsPartition}
use Rattle.degree_queue.proofs.Changing.{Changes, IsPartition-changed, other_lists, changed_list}
use Rattle.degree_queue.proofs.Moved.{put_changes, put_items, take_changes, take_items, item_read}
use Rattle.degree_queue.proofs.Partition.{all_items, IsApart-path, IsApart-path_free, IsApart-free_path, path_full, number_within, length-list, free_empty, free_within}

-- ns are the nodes, and e the ends of the degree
module _ {T : Type 0} (nodes ns : List (Node T)) (heads : List Ends) (free e : Ends) (d : ℕ) (sound : IsPartition nodes heads free) (ns_is : ns ≡ nodes) (read : e ≡ get_or heads d e) (inside : d < length heads) where
  e_is : ends_at heads d ≡ e
  e_is = get_or_default heads d no_ends e inside ∙ sym read

  ns_sound : IsPartition ns heads free
  ns_sound = subst (λ (x : List (Node T)). IsPartition x heads free) (sym ns_is) sound

  list_read : IsList ns e (path_of ns e)
  list_read = subst (λ (x : Ends). IsList ns x (path_of ns x)) e_is (ns_sound.lists d)

  same_items : list_of (all_items nodes heads) d ≡ list_of (all_items ns heads) d
  same_items = ap (λ (x : List (Node T)). list_of (all_items x heads) d) (sym ns_is)

  length_read : length (list_of (all_items nodes heads) d) ≡ e.len
  length_read = ap length same_items ∙ length-list ns heads free ns_sound d ∙ ap (λ (x : Ends). x.len) e_is

  -- a put
  module _ (some : 0 < free.len) where
    last_number : free.len - 1 < length (path_of ns free)
    last_number = omega (arith, ns_sound.free_list.len)

    last_is : free.last ≡ slice_index (path_of ns free) (free.len - 1)
    last_is = ns_sound.free_list.last (omega (arith, ns_sound.free_list.len)) ∙ ap (slice_index (path_of ns free)) (omega (arith, ns_sound.free_list.len))

    pub can_put : CanMove ns free e (free.len - 1) free.last
    can_put = record {
      from_list = ns_sound.free_list;
      to_list = list_read;
      apart = subst (λ (x : Ends). IsApart (length ns) (path_of ns free ++ path_of ns x)) e_is (IsApart-free_path ns heads free ns_sound d);
      inside = omega arith;
      at_is = last_is;
      within = omega (arith, last_is, free_within ns heads free ns_sound (free.len - 1) last_number);
    }

    pub last_empty : IsNone (item_at ns free.last)
    last_empty = subst (λ (i : ℕ). IsNone (item_at ns i)) (sym last_is) (free_empty ns heads free ns_sound (free.len - 1) last_number)

    module _ (new w : List (Node T)) (new_ends new_free : Ends) (item : T) (w_is : w ≡ new) (moves : Moves (path_of ns free) (path_of ns e) (free.len - 1) free.last (Some item) ns new new_free new_ends) where
      own_moves : Moves (path_of ns free) (path_of ns (ends_at heads d)) (free.len - 1) free.last (Some item) ns new new_free new_ends
      own_moves = subst (λ (x : Ends). Moves (path_of ns free) (path_of ns x) (free.len - 1) free.last (Some item) ns new new_free new_ends) (sym e_is) moves

      put_change : Changes ns new (path_of ns (ends_at heads d)) (path_of ns free) (path_of ns (ends_at heads d) ++ free.last ∷ []) (remove (path_of ns free) (free.len - 1)) new_ends new_free
      put_change = put_changes ns new heads free new_ends new_free d (free.len - 1) free.last ns_sound item last_number last_is own_moves

      pub put_sound : IsPartition w (set heads d new_ends) new_free
      put_sound =
          subst (λ (x : List (Node T)). IsPartition x (set heads d new_ends) new_free) (sym w_is) (IsPartition-changed ns new heads free new_ends new_free d _ _ ns_sound inside put_change)

      pub put_last : list_of (all_items w (set heads d new_ends)) d ≡ list_of (all_items nodes heads) d ++ item ∷ []
      put_last =
          ap (λ (x : List (Node T)). list_of (all_items x (set heads d new_ends)) d) w_is
          ∙ changed_list ns new heads free new_ends new_free d _ _ ns_sound inside put_change
          ∙ put_items ns new heads free new_ends new_free d (free.len - 1) free.last ns_sound item last_number last_is own_moves
          ∙ ap (λ (xs : List T). xs ++ item ∷ []) (sym same_items)

      pub put_others : (c : ℕ) → c ≢ d → list_of (all_items w (set heads d new_ends)) c ≡ list_of (all_items nodes heads) c
      put_others c other =
          ap (λ (x : List (Node T)). list_of (all_items x (set heads d new_ends)) c) w_is
          ∙ other_lists ns new heads free new_ends new_free d _ _ ns_sound inside put_change c other
          ∙ ap (λ (x : List (Node T)). list_of (all_items x heads) c) ns_is

  -- a look
  pub has_node : (k : ℕ) → k < length (list_of (all_items nodes heads) d) → HasNode ns e k
  has_node k within = record {
    list = list_read;
    apart = subst (λ (x : Ends). IsApart (length ns) (path_of ns x)) e_is (IsApart-path ns heads free ns_sound d);
    inside = omega (arith, length_read);
  }

  -- a look and a take at an index
  module _ (k at : ℕ) (within : k < length (list_of (all_items nodes heads) d)) (at_is : at ≡ slice_index (path_of ns e) k) where
    own_is : at ≡ slice_index (path_of ns (ends_at heads d)) k
    own_is = at_is ∙ ap (λ (x : Ends). slice_index (path_of ns x) k) (sym e_is)

    number : k < length (path_of ns (ends_at heads d))
    number = number_within ns heads free ns_sound d k (omega (arith, ap length same_items))

    pub can_take : at < length ns → CanMove ns e free k at
    can_take in_nodes = record {
      from_list = list_read;
      to_list = ns_sound.free_list;
      apart = subst (λ (x : Ends). IsApart (length ns) (path_of ns x ++ path_of ns free)) e_is (IsApart-path_free ns heads free ns_sound d);
      inside = omega (arith, length_read);
      at_is = at_is;
      within = in_nodes;
    }

    pub item_full : IsSome (item_at ns at)
    item_full = subst (λ (i : ℕ). IsSome (item_at ns i)) (sym own_is) (path_full ns heads free ns_sound d k number)

    pub item_found : slice_get (list_of (all_items nodes heads) d) k ≡ item_at ns at
    item_found =
        ap (λ (xs : List T). slice_get xs k) same_items ∙ item_read ns ns heads free e free d k at ns_sound number ∙ ap (item_at ns) (sym own_is)

    module _ (new w : List (Node T)) (new_ends new_free : Ends) (w_is : w ≡ new) (moves : Moves (path_of ns e) (path_of ns free) k at None ns new new_ends new_free) where
      taken : Moves (path_of ns (ends_at heads d)) (path_of ns free) k at None ns new new_ends new_free
      taken = subst (λ (x : Ends). Moves (path_of ns x) (path_of ns free) k at None ns new new_ends new_free) (sym e_is) moves

      take_change : Changes ns new (path_of ns (ends_at heads d)) (path_of ns free) (remove (path_of ns (ends_at heads d)) k) (path_of ns free ++ at ∷ []) new_ends new_free
      take_change = take_changes ns new heads free new_ends new_free d k at ns_sound number own_is taken

      pub take_sound : IsPartition w (set heads d new_ends) new_free
      take_sound =
          subst (λ (x : List (Node T)). IsPartition x (set heads d new_ends) new_free) (sym w_is) (IsPartition-changed ns new heads free new_ends new_free d _ _ ns_sound inside take_change)

      pub take_rest : list_of (all_items w (set heads d new_ends)) d ≡ remove (list_of (all_items nodes heads) d) k
      take_rest =
          ap (λ (x : List (Node T)). list_of (all_items x (set heads d new_ends)) d) w_is
          ∙ changed_list ns new heads free new_ends new_free d _ _ ns_sound inside take_change
          ∙ take_items ns new heads free new_ends new_free d k at ns_sound number own_is taken
          ∙ ap (λ (xs : List T). remove xs k) (sym same_items)

      pub take_others : (c : ℕ) → c ≢ d → list_of (all_items w (set heads d new_ends)) c ≡ list_of (all_items nodes heads) c
      take_others c other =
          ap (λ (x : List (Node T)). list_of (all_items x (set heads d new_ends)) c) w_is
          ∙ other_lists ns new heads free new_ends new_free d _ _ ns_sound inside take_change c other
          ∙ ap (λ (x : List (Node T)). list_of (all_items x heads) c) ns_is

  pub item_of : (at : ℕ) (x : Node T) → x ≡ get_or nodes at x → at < length ns → item_at ns at ≡ x.item
  item_of at x found within =
      ap (λ (xs : List (Node T)). item_at xs at) ns_is ∙ ap (λ (n : Node T). n.item) (get_or_default nodes at no_node x (omega (arith, ap length ns_is)) ∙ sym found)
