-- The same, as the calls give it.
use Rattle.std.proofs.Common.{◌≡◌, ◌≢◌, ℕ, zero, suc, ◌+◌, ◌-◌, ◌<◌, ◌≤◌, refl, sym, ap, ◌∙◌, subst, List, [], ◌∷◌, ◌++◌, length, get_or, set, length-set, length-append, arith, Option, Some, None, IsSome, ◌⊎◌, inl, inr}
use Rattle.std.specs.Prelude.{filter_map, MatchOption, option_copied}
use Rattle.std.specs.Borrow.{Bor}
use Rattle.std.proofs.lemmas.Option.{none-some, same_Some}
use Rattle.linked_terms.specs.Cursor.{Cursor}
use Rattle.linked_terms.specs.declared.cursor_list.Node.{Node}
use Rattle.linked_terms.specs.Links.{times_in, walk, next_of, item_of, next_at, item_at, items, IsLinked, IsSound}
use Rattle.linked_terms.proofs.Walks.{times_in-here, times_in-more, times_in-other, differs, at_most_once, is_below}
use Rattle.linked_terms.proofs.Links.{left_before, links_grow}
use Rattle.monomial_order.specs.laws.Comparing.{numbers_or_not}
use Rattle.linked_terms.proofs.Nodes.{filter_map_same, slice_get-set, slice_get-set_other, slice_get-push, slice_get-pushed, slice_get_is, right_below, right_item, sound_advance, items_advance, free_below, IsFilled, sound_insert, IsEmptied, sound_remove}

module _ {T : Type 0} (ns : List (Node T)) (i : ℕ) (node : Node T) (l : i < length ns) (e : node ≡ get_or ns i node) where
  pub next_is : next_at ns i ≡ node.next
  next_is = ap next_of (slice_get_is ns i node l e)

  pub item_is : item_at ns i ≡ node.item
  item_is = ap item_of (slice_get_is ns i node l e)

pub is_suc : (n : ℕ) → 0 < n → n ≡ suc (n - 1)
is_suc n l = omega arith

module _ {T : Type 0} (ns : List (Node T)) (head left right free before after spare : ℕ) (s : IsSound ns head left right free before after spare) where
  pub some_after : items ns after right ≢ [] → 0 < after
  some_after ne = cases after ne
    where
      cases : (a : ℕ) → items ns a right ≢ [] → 0 < a
      cases zero ne = absurd (ne refl)
      cases (suc a) ne = omega arith

  pub none_after : after ≡ 0 → items ns after right ≡ []
  none_after e = ap (λ a. items ns a right) e

  module _ (l : 0 < after) where
    long : IsSound ns head left right free before (suc (after - 1)) spare
    long = subst (λ a. IsSound ns head left right free before a spare) (is_suc after l) s

    pub right_in : right < length ns
    right_in = right_below ns head left right free before (after - 1) spare long

    -- the item of the node after the cursor
    pub item_right : (x : T) × (item_at ns right ≡ Some x) × (items ns after right ≡ x ∷ items ns (after - 1) (next_at ns right))
    item_right =
        let r = right_item ns head left right free before (after - 1) spare long in
        (r.0, r.1, ap (λ a. items ns a right) (is_suc after l) ∙ r.2)

    pub advance_sound : (node : Node T) → node ≡ get_or ns right node → IsSound ns head right node.next free (before + 1) (after - 1) spare
    advance_sound node e =
        let one : suc before ≡ before + 1 = omega arith in
        subst (λ b. IsSound ns head right node.next free b (after - 1) spare) one
        (subst (λ i. IsSound ns head right i free (suc before) (after - 1) spare) (next_is ns right node right_in e) (sound_advance ns head left right free before (after - 1) spare long))

    pub advance_items : (node : Node T) → node ≡ get_or ns right node → (x : T) (rest : List T) → items ns after right ≡ x ∷ rest →
        (items ns (before + 1) head ≡ items ns before head ++ x ∷ []) × (items ns (after - 1) node.next ≡ rest)
    advance_items node e x rest h =
        let one : suc before ≡ before + 1 = omega arith in
        let r = items_advance ns head left right free before (after - 1) spare long x rest (ap (λ a. items ns a right) (sym (is_suc after l)) ∙ h) in (
          ap (λ b. items ns b head) (sym one) ∙ r.0,
          ap (items ns (after - 1)) (sym (next_is ns right node right_in e)) ∙ r.1,
        )

-- a node that is written anew
module _ {T : Type 0} (ns : List (Node T)) (i : ℕ) (x : Node T) where
  pub next_written : i < length ns → next_at (set ns i x) i ≡ x.next
  next_written l = ap next_of (slice_get-set ns i x l)

  pub item_written : i < length ns → item_at (set ns i x) i ≡ x.item
  item_written l = ap item_of (slice_get-set ns i x l)

  pub next_elsewhere : (j : ℕ) → j ≢ i → next_at (set ns i x) j ≡ next_at ns j
  next_elsewhere j ne = ap next_of (slice_get-set_other ns i j x ne)

  pub item_elsewhere : (j : ℕ) → j ≢ i → item_at (set ns i x) j ≡ item_at ns j
  item_elsewhere j ne = ap item_of (slice_get-set_other ns i j x ne)

-- two nodes that are written anew, of which the second keeps its item
module _ {T : Type 0} (ns : List (Node T)) (i left to : ℕ) (x z : Node T) (ne : left ≢ i) (l : i < length ns) (m : left < length ns)
    (e : z ≡ get_or (set ns i x) left z) where
  abbrev both : List (Node T)
  both = set (set ns i x) left (record { item = z.item; next = to })

  m' : left < length (set ns i x)
  m' = omega (arith, length-set ns i x)

  pub both_length : length both ≡ length ns
  both_length = length-set (set ns i x) left (record { item = z.item; next = to }) ∙ length-set ns i x

  pub both_next : next_at both left ≡ to
  both_next = next_written (set ns i x) left (record { item = z.item; next = to }) m'

  pub both_first_next : next_at both i ≡ x.next
  both_first_next = next_elsewhere (set ns i x) left (record { item = z.item; next = to }) i (λ q. ne (sym q)) ∙ next_written ns i x l

  pub both_first_item : item_at both i ≡ x.item
  both_first_item = item_elsewhere (set ns i x) left (record { item = z.item; next = to }) i (λ q. ne (sym q)) ∙ item_written ns i x l

  pub both_others : (j : ℕ) → j ≢ i → j ≢ left → next_at both j ≡ next_at ns j
  both_others j a b = next_elsewhere (set ns i x) left (record { item = z.item; next = to }) j b ∙ next_elsewhere ns i x j a

  pub both_items : (j : ℕ) → j ≢ i → item_at both j ≡ item_at ns j
  both_items j a = cases (numbers_or_not j left)
    where
      cases : (j ≡ left) ⊎ (j ≢ left) → item_at both j ≡ item_at ns j
      cases (inl q) =
          ap (item_at both) q ∙
          (item_written (set ns i x) left (record { item = z.item; next = to }) m' ∙
          (sym (item_is (set ns i x) left z m' e) ∙ (item_elsewhere ns i x left ne ∙ ap (item_at ns) (sym q))))
      cases (inr b) = item_elsewhere (set ns i x) left (record { item = z.item; next = to }) j b ∙ item_elsewhere ns i x j a

module _ {T : Type 0} (ns : List (Node T)) (head left right free before after spare : ℕ) (s : IsSound ns head left right free before after spare) where
  pub left_in : 0 < before → left < length ns
  left_in l =
      let h = left_before (next_at ns) (length ns) head left right free before after spare s.links l in
      is_below (length ns) (walk (next_at ns) before head) (walk (next_at ns) after right) (walk (next_at ns) spare free) s.links.partition left (omega arith)

  left_not : (i : ℕ) → 0 < before → 1 ≤ times_in i (walk (next_at ns) after right) + times_in i (walk (next_at ns) spare free) → left ≢ i
  left_not i l m =
      let h = left_before (next_at ns) (length ns) head left right free before after spare s.links l in
      let most = at_most_once (length ns) (walk (next_at ns) before head) (walk (next_at ns) after right) (walk (next_at ns) spare free) s.links.partition i in
      differs i left (walk (next_at ns) before head) (omega arith) h

  module _ (l : 0 < spare) (v : T) (x : Node T) (ex : x ≡ record { item = Some v; next = right }) where
    long_spare : IsSound ns head left right free before after (suc (spare - 1))
    long_spare = subst (λ a. IsSound ns head left right free before after a) (is_suc spare l) s

    pub free_in : free < length ns
    free_in = free_below ns head left right free before after (spare - 1) long_spare

    free_there : 1 ≤ times_in free (walk (next_at ns) spare free)
    free_there =
        subst (λ a. 1 ≤ times_in free (walk (next_at ns) a free)) (sym (is_suc spare l))
        (let h = times_in-here free (walk (next_at ns) (spare - 1) (next_at ns free)) in omega arith)

    pub filled_first : before ≡ 0 → IsFilled ns (set ns free x) free head left right free before v
    filled_first z = record {
      links = record {
        put = next_written ns free x free_in ∙ ap (λ (y : Node T). y.next) ex;
        first = λ _. refl;
        linked = λ p. absurd (omega arith);
        head_same = λ p. absurd (omega arith);
        others = λ j a b. next_elsewhere ns free x j a;
      };
      item = item_written ns free x free_in ∙ ap (λ (y : Node T). y.item) ex;
      items_same = item_elsewhere ns free x;
      length_same = length-set ns free x;
    }

    pub filled_next : 0 < before → (z : Node T) → z ≡ get_or (set ns free x) left z →
        IsFilled ns (set (set ns free x) left (record { item = z.item; next = free })) head head left right free before v
    filled_next p z e =
        let ne : left ≢ free = left_not free p (let h = free_there in omega arith) in
        let m : left < length ns = left_in p in
        record {
          links = record {
            put = both_first_next ns free left free x z ne free_in m e ∙ ap (λ (y : Node T). y.next) ex;
            first = λ q. absurd (omega arith);
            linked = λ _. both_next ns free left free x z ne free_in m e;
            head_same = λ _. refl;
            others = λ j a b. both_others ns free left free x z ne free_in m e j a (b p);
          };
          item = both_first_item ns free left free x z ne free_in m e ∙ ap (λ (y : Node T). y.item) ex;
          items_same = both_items ns free left free x z ne free_in m e;
          length_same = both_length ns free left free x z ne free_in m e;
        }

    pub insert_step : (ns' : List (Node T)) (head' n : ℕ) → IsFilled ns ns' head' head left right free before v → n ≡ next_at ns free →
        IsSound ns' head' free right n (before + 1) after (spare - 1) × (items ns' (before + 1) head' ≡ items ns before head ++ v ∷ []) × (items ns' after right ≡ items ns after right)
    insert_step ns' head' n f e =
        let one : suc before ≡ before + 1 = omega arith in
        let r = sound_insert ns head left right free before after (spare - 1) long_spare ns' head' v f in (
          subst (λ b. IsSound ns' head' free right n b after (spare - 1)) one (subst (λ i. IsSound ns' head' free right i (suc before) after (spare - 1)) (sym e) r.sound),
          ap (λ b. items ns' b head') (sym one) ∙ r.left_of,
          r.right_of,
        )

  module _ (l : 0 < after) (x : Node T) (ex : x ≡ record { item = None; next = free }) (n : ℕ) (en : n ≡ next_at ns right) where
    below : right < length ns
    below = right_in ns head left right free before after spare s l

    right_there : 1 ≤ times_in right (walk (next_at ns) after right)
    right_there =
        subst (λ a. 1 ≤ times_in right (walk (next_at ns) a right)) (sym (is_suc after l))
        (let h = times_in-here right (walk (next_at ns) (after - 1) (next_at ns right)) in omega arith)

    pub emptied_first : before ≡ 0 → IsEmptied ns (set ns right x) n head left right free before
    emptied_first z = record {
      links = record {
        put = next_written ns right x below ∙ ap (λ (y : Node T). y.next) ex;
        first = λ _. en;
        linked = λ p. absurd (omega arith);
        head_same = λ p. absurd (omega arith);
        others = λ j a b. next_elsewhere ns right x j a;
      };
      item = item_written ns right x below ∙ ap (λ (y : Node T). y.item) ex;
      items_same = item_elsewhere ns right x;
      length_same = length-set ns right x;
    }

    pub emptied_next : 0 < before → (z : Node T) → z ≡ get_or (set ns right x) left z →
        IsEmptied ns (set (set ns right x) left (record { item = z.item; next = n })) head head left right free before
    emptied_next p z e =
        let ne : left ≢ right = left_not right p (let h = right_there in omega arith) in
        let m : left < length ns = left_in p in
        record {
          links = record {
            put = both_first_next ns right left n x z ne below m e ∙ ap (λ (y : Node T). y.next) ex;
            first = λ q. absurd (omega arith);
            linked = λ _. both_next ns right left n x z ne below m e ∙ en;
            head_same = λ _. refl;
            others = λ j a b. both_others ns right left n x z ne below m e j a (b p);
          };
          item = both_first_item ns right left n x z ne below m e ∙ ap (λ (y : Node T). y.item) ex;
          items_same = both_items ns right left n x z ne below m e;
          length_same = both_length ns right left n x z ne below m e;
        }

    pub remove_step : (ns' : List (Node T)) (head' : ℕ) → IsEmptied ns ns' head' head left right free before →
        IsSound ns' head' left n right before (after - 1) (spare + 1) × (items ns' before head' ≡ items ns before head) × (items ns' (after - 1) n ≡ items ns (after - 1) (next_at ns right))
    remove_step ns' head' f =
        let one : suc spare ≡ spare + 1 = omega arith in
        let long : IsSound ns head left right free before (suc (after - 1)) spare = subst (λ a. IsSound ns head left right free before a spare) (is_suc after l) s in
        let r = sound_remove ns head left right free before (after - 1) spare long ns' head' f in (
          subst (λ b. IsSound ns' head' left n right before (after - 1) b) one (subst (λ i. IsSound ns' head' left i right before (after - 1) (suc spare)) (sym en) r.sound),
          r.left_of,
          ap (items ns' (after - 1)) en ∙ r.right_of,
        )

-- what a copied option tells of the item after the cursor
pub first_is : {T : Type 0} (r : Option (Bor T)) (x : T) (rest xs : List T) → option_copied r ≡ Some x → xs ≡ x ∷ rest →
    MatchOption r (xs ≡ []) (λ y. (more : List T) × (xs ≡ y.now ∷ more))
first_is None x rest xs h e = absurd (none-some x h)
first_is (Some b) x rest xs h e = (rest, e ∙ ap (λ y. y ∷ rest) (sym (same_Some b.now x h)))

-- what the item tells that was taken out of the node after the cursor
pub taken_is : {T : Type 0} (o : Option T) (x : T) (rest : List T) (old new : Cursor T) → o ≡ Some x → old.after ≡ x ∷ rest →
    new ≡ record { before = old.before; after = rest; spare = old.spare + 1 } →
    MatchOption o ((old.after ≡ []) × (new ≡ old)) (λ y. (more : List T) × (old.after ≡ y ∷ more) × (new ≡ record { before = old.before; after = more; spare = old.spare + 1 }))
taken_is None x rest old new h e k = absurd (none-some x h)
taken_is (Some y) x rest old new h e k = (rest, e ∙ ap (λ z. z ∷ rest) (sym (same_Some y x h)), k)

-- one more spare node
module _ {T : Type 0} (ns : List (Node T)) (head left right free before after spare : ℕ) (s : IsSound ns head left right free before after spare)
    (x : Node T) (ex : x ≡ record { item = None; next = free }) where
  abbrev grown : List (Node T)
  grown = ns ++ x ∷ []

  grown_length : length grown ≡ length ns + 1
  grown_length = length-append ns (x ∷ [])

  old_next : (i : ℕ) → i < length ns → next_at grown i ≡ next_at ns i
  old_next i l = ap next_of (slice_get-push ns i x l)

  old_item : (i : ℕ) → i < length ns → item_at grown i ≡ item_at ns i
  old_item i l = ap item_of (slice_get-push ns i x l)

  new_item : item_at grown (length ns) ≡ None
  new_item = ap item_of (slice_get-pushed ns x) ∙ ap (λ (y : Node T). y.item) ex

  pub grow_step : (free' : ℕ) → free' ≡ length ns →
      IsSound grown head left right free' before after (spare + 1) × (items grown before head ≡ items ns before head) × (items grown after right ≡ items ns after right)
  grow_step free' e =
      let f = next_at ns in
      let h = next_at grown in
      let P = walk f before head in
      let Q = walk f after right in
      let R = walk f spare free in
      let part = s.links.partition in
      let put : h (length ns) ≡ free = ap next_of (slice_get-pushed ns x) ∙ ap (λ (y : Node T). y.next) ex in
      let g = links_grow f h (length ns) head left right free before after spare s.links put old_next in
      let one : suc spare ≡ spare + 1 = omega arith in
      let sound : IsSound grown head left right (length ns) before after (suc spare) = record {
        links = subst (λ n. IsLinked h n head left right (length ns) before after (suc spare)) (sym grown_length) g.0;
        full = λ i l z.
            let z' : times_in i (length ns ∷ R) ≡ 0 = ap (times_in i) (sym g.3) ∙ z in
            full_at i (numbers_or_not i (length ns)) l z';
        vacant = λ i l. vacant_at i (numbers_or_not i (length ns)) (subst (λ p. 1 ≤ times_in i p) g.3 l);
      } in (
        subst (λ b. IsSound grown head left right free' before after b) one (subst (λ i. IsSound grown head left right i before after (suc spare)) (sym e) sound),
        ap (filter_map (item_at grown)) g.1 ∙ filter_map_same (item_at ns) (item_at grown) P (λ i l. old_item i (is_below (length ns) P Q R part i (omega arith))),
        ap (filter_map (item_at grown)) g.2 ∙ filter_map_same (item_at ns) (item_at grown) Q (λ i l. old_item i (is_below (length ns) P Q R part i (omega arith))),
      )
    where
      full_at : (i : ℕ) → (i ≡ length ns) ⊎ (i ≢ length ns) → i < length grown → times_in i (length ns ∷ walk (next_at ns) spare free) ≡ 0 → IsSome (item_at grown i)
      full_at i (inl q) l z =
          let h = times_in-here i (walk (next_at ns) spare free) in
          let same : times_in i (i ∷ walk (next_at ns) spare free) ≡ 0 = subst (λ v. times_in i (v ∷ walk (next_at ns) spare free) ≡ 0) (sym q) z in
          absurd (omega arith)
      full_at i (inr ne) l z =
          let less : i < length ns = omega (arith, grown_length) in
          subst IsSome (sym (old_item i less)) (s.full i less (omega (arith, times_in-more i (length ns) (walk (next_at ns) spare free))))

      vacant_at : (i : ℕ) → (i ≡ length ns) ⊎ (i ≢ length ns) → 1 ≤ times_in i (length ns ∷ walk (next_at ns) spare free) → item_at grown i ≡ None
      vacant_at i (inl q) l = ap (item_at grown) q ∙ new_item
      vacant_at i (inr ne) l =
          let m : times_in i (length ns ∷ walk (next_at ns) spare free) ≡ times_in i (walk (next_at ns) spare free) =
          times_in-other i (length ns) (walk (next_at ns) spare free) (λ q. ne (sym q)) in
          let P = walk (next_at ns) before head in
          let Q = walk (next_at ns) after right in
          let R = walk (next_at ns) spare free in
          old_item i (is_below (length ns) P Q R s.links.partition i (omega arith)) ∙ s.vacant i (omega arith)
