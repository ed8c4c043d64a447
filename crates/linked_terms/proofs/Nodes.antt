-- What each call does to the nodes, and to the items of the list.
use Rattle.std.proofs.Common.{◌≡◌, ◌≢◌, ℕ, zero, suc, ◌+◌, ◌<◌, ◌≤◌, refl, sym, ap, ◌∙◌, subst, List, [], ◌∷◌, ◌++◌, length, get_or, set, arith, Option, Some, None, IsSome, ◌⊎◌, inl, inr}
use Rattle.std.specs.Prelude.{filter_map, slice_get}
use Rattle.std.proofs.lemmas.List.Elements.{filter_map-append}
use Rattle.std.proofs.lemmas.Bool.{true≢false}
use Rattle.std.proofs.lemmas.Option.{slice_get-get_or}
use Rattle.linked_terms.specs.Cursor.{Cursor}
use Rattle.linked_terms.specs.declared.cursor_list.Node.{Node}
use Rattle.linked_terms.specs.Links.{times_in, walk, IsLinked, next_at, item_at, items, IsSound}
use Rattle.linked_terms.proofs.Walks.{times_in-here, times_in-more, times_in-other, differs, length-walk, at_most_once, is_below}
use Rattle.monomial_order.specs.laws.Comparing.{numbers_or_not}
use Rattle.linked_terms.proofs.Links.{IsInserted, IsRemoved, WalksInserted, WalksRemoved, links_advance, walk_advance, walk_rewind, links_rewind, links_insert, links_remove}

module _ {A : Type 0} where
  pub slice_get-set : (xs : List A) (i : ℕ) (x : A) → i < length xs → slice_get (set xs i x) i ≡ Some x
  slice_get-set [] i x l = absurd (omega arith)
  slice_get-set (y ∷ xs) zero x l = refl
  slice_get-set (y ∷ xs) (suc i) x l = slice_get-set xs i x (omega arith)

  pub slice_get-set_other : (xs : List A) (i j : ℕ) (x : A) → j ≢ i → slice_get (set xs i x) j ≡ slice_get xs j
  slice_get-set_other [] i j x ne = refl
  slice_get-set_other (y ∷ xs) zero zero x ne = absurd (ne refl)
  slice_get-set_other (y ∷ xs) zero (suc j) x ne = refl
  slice_get-set_other (y ∷ xs) (suc i) zero x ne = refl
  slice_get-set_other (y ∷ xs) (suc i) (suc j) x ne = slice_get-set_other xs i j x (λ e. ne (ap suc e))

  pub slice_get-push : (xs : List A) (i : ℕ) (x : A) → i < length xs → slice_get (xs ++ x ∷ []) i ≡ slice_get xs i
  slice_get-push [] i x l = absurd (omega arith)
  slice_get-push (y ∷ xs) zero x l = refl
  slice_get-push (y ∷ xs) (suc i) x l = slice_get-push xs i x (omega arith)

  pub slice_get-pushed : (xs : List A) (x : A) → slice_get (xs ++ x ∷ []) (length xs) ≡ Some x
  slice_get-pushed [] x = refl
  slice_get-pushed (y ∷ xs) x = slice_get-pushed xs x

  pub slice_get_is : (xs : List A) (i : ℕ) (x : A) → i < length xs → x ≡ get_or xs i x → slice_get xs i ≡ Some x
  slice_get_is xs i x l e = slice_get-get_or xs i x l ∙ ap Some (sym e)

  pub some_is : (o : Option A) → IsSome o → (x : A) × (o ≡ Some x)
  some_is None h = absurd (true≢false (sym h))
  some_is (Some x) h = (x, refl)

  pub some_of : (o : Option A) (x : A) → o ≡ Some x → IsSome o
  some_of o x e = subst IsSome (sym e) refl

  -- the items depend on the nodes of the walk alone
  pub filter_map_same : (g h : ℕ → Option A) (p : List ℕ) → ((i : ℕ) → 1 ≤ times_in i p → h i ≡ g i) → filter_map h p ≡ filter_map g p
  filter_map_same g h [] k = refl
  filter_map_same g h (i ∷ p) k =
      let rest : filter_map h p ≡ filter_map g p = filter_map_same g h p (λ j l. k j (omega (arith, times_in-more j i p))) in
      let first : h i ≡ g i = k i (omega (arith, times_in-here i p)) in
      ap (λ o. Rattle.std.specs.List.cons_option o (filter_map h p)) first ∙ ap (Rattle.std.specs.List.cons_option (g i)) rest

  pub length-filter_map : (g : ℕ → Option A) (p : List ℕ) → ((i : ℕ) → 1 ≤ times_in i p → IsSome (g i)) → length (filter_map g p) ≡ length p
  length-filter_map g [] k = refl
  length-filter_map g (i ∷ p) k =
      let some = some_is (g i) (k i (omega (arith, times_in-here i p))) in
      ap (λ o. length (Rattle.std.specs.List.cons_option o (filter_map g p))) some.1 ∙
      ap suc (length-filter_map g p (λ j l. k j (omega (arith, times_in-more j i p))))

pub cursor_is : {A : Type 0} (b b' a a' : List A) (s s' : ℕ) → b ≡ b' → a ≡ a' → s ≡ s' →
    ◌≡◌ {A = Cursor A} (record { before = b; after = a; spare = s }) (record { before = b'; after = a'; spare = s' })
cursor_is b b' a a' s s' eb ea es =
    let B : List _ → Cursor _ = λ x. record { before = x; after = a; spare = s } in
    let C : List _ → Cursor _ = λ x. record { before = b'; after = x; spare = s } in
    let D : ℕ → Cursor _ = λ x. record { before = b'; after = a'; spare = x } in
    ap B eb ∙ (ap C ea ∙ ap D es)

module _ {T : Type 0} (ns : List (Node T)) (head left right free before after spare : ℕ) (s : IsSound ns head left right free before after spare) where
  -- a node of the list has an item
  has_item : (i : ℕ) → 1 ≤ times_in i (walk (next_at ns) before head) + times_in i (walk (next_at ns) after right) → IsSome (item_at ns i)
  has_item i l =
      let P = walk (next_at ns) before head in
      let Q = walk (next_at ns) after right in
      let R = walk (next_at ns) spare free in
      let most = at_most_once (length ns) P Q R s.links.partition i in
      s.full i (is_below (length ns) P Q R s.links.partition i (omega arith)) (omega arith)

  pub length_before : length (items ns before head) ≡ before
  length_before =
      length-filter_map (item_at ns) (walk (next_at ns) before head) (λ i l. has_item i (omega arith)) ∙ length-walk (next_at ns) before head

  pub length_after : length (items ns after right) ≡ after
  length_after =
      length-filter_map (item_at ns) (walk (next_at ns) after right) (λ i l. has_item i (omega arith)) ∙ length-walk (next_at ns) after right

  pub items_rewind : items ns (after + before) head ≡ items ns before head ++ items ns after right
  items_rewind =
      ap (filter_map (item_at ns)) (walk_rewind (next_at ns) (length ns) head left right free before after spare s.links) ∙
      filter_map-append (item_at ns) (walk (next_at ns) before head) (walk (next_at ns) after right)

  pub sound_rewind : IsSound ns head left head free 0 (after + before) spare
  sound_rewind = record { links = links_rewind (next_at ns) (length ns) head left right free before after spare s.links; full = s.full; vacant = s.vacant }

module _ {T : Type 0} (ns : List (Node T)) (head left right free before after spare : ℕ) (s : IsSound ns head left right free before (suc after) spare) where
  pub right_below : right < length ns
  right_below =
      let P = walk (next_at ns) before head in
      let Q = walk (next_at ns) (suc after) right in
      let R = walk (next_at ns) spare free in
      is_below (length ns) P Q R s.links.partition right (omega (arith, times_in-here right (walk (next_at ns) after (next_at ns right))))

  -- the node after the cursor has an item, the first after the cursor
  pub right_item : (x : T) × (item_at ns right ≡ Some x) × (items ns (suc after) right ≡ x ∷ items ns after (next_at ns right))
  right_item =
      let h = times_in-here right (walk (next_at ns) after (next_at ns right)) in
      let some = some_is (item_at ns right) (has_item ns head left right free before (suc after) spare s right (omega arith)) in
      (some.0, some.1, ap (λ o. Rattle.std.specs.List.cons_option o (items ns after (next_at ns right))) some.1)

  pub sound_advance : IsSound ns head right (next_at ns right) free (suc before) after spare
  sound_advance = record { links = links_advance (next_at ns) (length ns) head left right free before after spare s.links; full = s.full; vacant = s.vacant }

  pub items_advance : (x : T) (rest : List T) → items ns (suc after) right ≡ x ∷ rest →
      (items ns (suc before) head ≡ items ns before head ++ x ∷ []) × (items ns after (next_at ns right) ≡ rest)
  items_advance x rest e =
      let r = right_item in
      let both : r.0 ∷ items ns after (next_at ns right) ≡ x ∷ rest = sym r.2 ∙ e in
      let same : r.0 ≡ x = cc in
      let tail : items ns after (next_at ns right) ≡ rest = cc in (
        ap (filter_map (item_at ns)) (walk_advance (next_at ns) (length ns) head left right free before (suc after) spare s.links) ∙
            (filter_map-append (item_at ns) (walk (next_at ns) before head) (right ∷ []) ∙
            ap (λ o. items ns before head ++ Rattle.std.specs.List.cons_option o []) (r.1 ∙ ap Some same)),
        tail,
      )

-- the new nodes after an item is put into the node `free`
pub record IsFilled {T : Type 0} (ns ns' : List (Node T)) (head' head left right free before : ℕ) (x : T) : Type 0 where
  pub links : IsInserted (next_at ns) (next_at ns') head' head left right free before
  pub item : item_at ns' free ≡ Some x
  pub items_same : (i : ℕ) → i ≢ free → item_at ns' i ≡ item_at ns i
  pub length_same : length ns' ≡ length ns

pub record ItemsInserted {T : Type 0} (ns ns' : List (Node T)) (head' head right free before after spare : ℕ) (x : T) : Type 0 where
  pub sound : IsSound ns' head' free right (next_at ns free) (suc before) after spare
  pub left_of : items ns' (suc before) head' ≡ items ns before head ++ x ∷ []
  pub right_of : items ns' after right ≡ items ns after right

module _ {T : Type 0} (ns : List (Node T)) (head left right free before after spare : ℕ) (s : IsSound ns head left right free before after (suc spare)) where
  pub free_below : free < length ns
  free_below =
      let P = walk (next_at ns) before head in
      let Q = walk (next_at ns) after right in
      let R = walk (next_at ns) (suc spare) free in
      is_below (length ns) P Q R s.links.partition free (omega (arith, times_in-here free (walk (next_at ns) spare (next_at ns free))))

  pub sound_insert : (ns' : List (Node T)) (head' : ℕ) (x : T) → IsFilled ns ns' head' head left right free before x → ItemsInserted ns ns' head' head right free before after spare x
  sound_insert ns' head' x e =
      let f = next_at ns in
      let h = next_at ns' in
      let R = walk f spare (f free) in
      let w : WalksInserted f h (length ns) head' head right free before after spare =
      links_insert f h (length ns) head' head left right free before after spare s.links e.links in
      let here : times_in free (free ∷ R) ≡ 1 + times_in free R = times_in-here free R in
      let most = at_most_once (length ns) (walk f before head) (walk f after right) (free ∷ R) s.links.partition free in
      let fp : times_in free (walk f before head) ≡ 0 = omega arith in
      let fq : times_in free (walk f after right) ≡ 0 = omega arith in
      let fr : times_in free R ≡ 0 = omega arith in
      record {
        sound = record {
          links = subst (λ n. IsLinked h n head' free right (f free) (suc before) after spare) (sym e.length_same) w.links;
          full = λ i l z. cases i (numbers_or_not i free) (omega (arith, e.length_same)) (ap (times_in i) (sym w.walk_spare) ∙ z);
          vacant = λ i l.
              let m : 1 ≤ times_in i R = omega (arith, ap (times_in i) w.walk_spare) in
              let ne : i ≢ free = differs free i R fr m in
              e.items_same i ne ∙ s.vacant i (omega (arith, times_in-more i free R));
        };
        left_of =
            ap (filter_map (item_at ns')) w.walk_before ∙
            (filter_map-append (item_at ns') (walk f before head) (free ∷ []) ∙
            (ap (λ p. p ++ filter_map (item_at ns') (free ∷ [])) (filter_map_same (item_at ns) (item_at ns') (walk f before head) (λ i l. e.items_same i (differs free i (walk f before head) fp l))) ∙
            ap (λ o. items ns before head ++ Rattle.std.specs.List.cons_option o []) e.item));
        right_of =
            ap (filter_map (item_at ns')) w.walk_after ∙
            filter_map_same (item_at ns) (item_at ns') (walk f after right) (λ i l. e.items_same i (differs free i (walk f after right) fq l));
      }
    where
      cases : (i : ℕ) → (i ≡ free) ⊎ (i ≢ free) → i < length ns → times_in i (walk (next_at ns) spare (next_at ns free)) ≡ 0 → IsSome (item_at ns' i)
      cases i (inl q) l z = some_of (item_at ns' i) x (ap (item_at ns') q ∙ e.item)
      cases i (inr ne) l z =
          subst IsSome (sym (e.items_same i ne))
          (s.full i l (times_in-other i free (walk (next_at ns) spare (next_at ns free)) (λ q. ne (sym q)) ∙ z))

-- the new nodes after the item is taken out of the node `right`
pub record IsEmptied {T : Type 0} (ns ns' : List (Node T)) (head' head left right free before : ℕ) : Type 0 where
  pub links : IsRemoved (next_at ns) (next_at ns') head' head left right free before
  pub item : item_at ns' right ≡ None
  pub items_same : (i : ℕ) → i ≢ right → item_at ns' i ≡ item_at ns i
  pub length_same : length ns' ≡ length ns

pub record ItemsRemoved {T : Type 0} (ns ns' : List (Node T)) (head' head left right before after spare : ℕ) : Type 0 where
  pub sound : IsSound ns' head' left (next_at ns right) right before after (suc spare)
  pub left_of : items ns' before head' ≡ items ns before head
  pub right_of : items ns' after (next_at ns right) ≡ items ns after (next_at ns right)

module _ {T : Type 0} (ns : List (Node T)) (head left right free before after spare : ℕ) (s : IsSound ns head left right free before (suc after) spare) where
  pub sound_remove : (ns' : List (Node T)) (head' : ℕ) → IsEmptied ns ns' head' head left right free before → ItemsRemoved ns ns' head' head left right before after spare
  sound_remove ns' head' e =
      let f = next_at ns in
      let h = next_at ns' in
      let Q = walk f after (f right) in
      let w : WalksRemoved f h (length ns) head' head left right free before after spare =
      links_remove f h (length ns) head' head left right free before after spare s.links e.links in
      let here : times_in right (right ∷ Q) ≡ 1 + times_in right Q = times_in-here right Q in
      let most = at_most_once (length ns) (walk f before head) (right ∷ Q) (walk f spare free) s.links.partition right in
      let rp : times_in right (walk f before head) ≡ 0 = omega arith in
      let rq : times_in right Q ≡ 0 = omega arith in
      record {
        sound = record {
          links = subst (λ n. IsLinked h n head' left (f right) right before after (suc spare)) (sym e.length_same) w.links;
          full = λ i l z.
              let z' : times_in i (right ∷ walk f spare free) ≡ 0 = ap (times_in i) (sym w.walk_spare) ∙ z in
              let ne : i ≢ right = λ q. let m : times_in i (right ∷ walk f spare free) ≡ 1 + times_in i (walk f spare free) = subst (λ v. times_in i (v ∷ walk f spare free) ≡ 1 + times_in i (walk f spare free)) q (times_in-here i (walk f spare free)) in absurd (omega arith) in
              subst IsSome (sym (e.items_same i ne)) (s.full i (omega (arith, e.length_same)) (sym (times_in-other i right (walk f spare free) (λ q. ne (sym q))) ∙ z'));
          vacant = λ i l. cases i (numbers_or_not i right) (subst (λ p. 1 ≤ times_in i p) w.walk_spare l);
        };
        left_of =
            ap (filter_map (item_at ns')) w.walk_before ∙
            filter_map_same (item_at ns) (item_at ns') (walk f before head) (λ i l. e.items_same i (differs right i (walk f before head) rp l));
        right_of =
            ap (filter_map (item_at ns')) w.walk_after ∙
            filter_map_same (item_at ns) (item_at ns') Q (λ i l. e.items_same i (differs right i Q rq l));
      }
    where
      cases : (i : ℕ) → (i ≡ right) ⊎ (i ≢ right) → 1 ≤ times_in i (right ∷ walk (next_at ns) spare free) → item_at ns' i ≡ None
      cases i (inl q) l = ap (item_at ns') q ∙ e.item
      cases i (inr ne) l =
          let o : times_in i (right ∷ walk (next_at ns) spare free) ≡ times_in i (walk (next_at ns) spare free) =
          times_in-other i right (walk (next_at ns) spare free) (λ q. ne (sym q)) in
          e.items_same i ne ∙ s.vacant i (omega arith)
