-- A node that leaves its list.
use Rattle.std.proofs.Common.{◌≡◌, ◌≢◌, ℕ, suc, ◌+◌, ◌-◌, ◌<◌, ◌≤◌, List, length, get_or, subst, sym, ap, ◌∙◌, inl, inr, arith, add-one}
use Rattle.std.specs.List.{remove, slice_index}
use Rattle.std.proofs.lemmas.Bool.{cases_order}
use Rattle.std.proofs.lemmas.List.Edits.{length-remove, get_or-remove_below, get_or-remove_above}
use Rattle.degree_queue.specs.declared.links.Node.{Node}
use Rattle.degree_queue.specs.declared.links.Ends.{Ends}
use Rattle.std.proofs.lemmas.List.{get_or_default}
use Rattle.degree_queue.specs.Links.{times, no_node, next_at, prev_at, IsList, Joins, ChangesLinks, HasNode, path_of}
use Rattle.degree_queue.proofs.Counting.{same_index, slice_index-lt}
use Rattle.degree_queue.proofs.Paths.{ChangesLinks-joined}

module _ {T : Type 0} (nodes : List (Node T)) (ends : Ends) (p : List ℕ) (k : ℕ) (list : IsList nodes ends p) (inside : k < length p) where
  abbrev rest : List ℕ
  rest = remove p k

  long : length rest + 1 ≡ length p
  long = length-remove p k inside

  below : (j : ℕ) → j < k → slice_index rest j ≡ slice_index p j
  below j lower = get_or-remove_below p k 0 j lower inside

  above : (j : ℕ) → k ≤ j → slice_index rest j ≡ slice_index p (suc j)
  above j upper = get_or-remove_above p k 0 j upper inside ∙ ap (slice_index p) (add-one j)

  at_index : (i j : ℕ) → i ≡ j → slice_index p i ≡ slice_index p j
  at_index i j same = ap (slice_index p) same

  -- the first node leaves
  pub IsList-without_first : k ≡ 0 → IsList nodes (record { first = next_at nodes (slice_index p k); last = ends.last; len = ends.len - 1 }) (remove p k)
  IsList-without_first start = record {
    len = omega (arith, long, list.len);
    first = λ some. ap (λ (i : ℕ). next_at nodes (slice_index p i)) start ∙ list.next 0 (omega (arith, long)) ∙ sym (above 0 (omega arith));
    last = λ some. list.last (omega arith) ∙ at_index (length p - 1) (suc (length rest - 1)) (omega (arith, long)) ∙ sym (above (length rest - 1) (omega arith));
    next = λ j within. ap (next_at nodes) (above j (omega arith)) ∙ list.next (suc j) (omega (arith, long)) ∙ sym (above (suc j) (omega arith));
    prev = λ j within. ap (prev_at nodes) (above (suc j) (omega arith)) ∙ list.prev (suc j) (omega (arith, long)) ∙ sym (above j (omega arith));
  }

  -- the last node leaves
  pub IsList-without_last : suc k ≡ length p → IsList nodes (record { first = ends.first; last = prev_at nodes (slice_index p k); len = ends.len - 1 }) (remove p k)
  IsList-without_last end = record {
    len = omega (arith, long, list.len);
    first = λ some. list.first (omega arith) ∙ sym (below 0 (omega (arith, long)));
    last = λ some. ap (prev_at nodes) (at_index k (suc (length rest - 1)) (omega (arith, long))) ∙ list.prev (length rest - 1) (omega (arith, long)) ∙ sym (below (length rest - 1) (omega (arith, long)));
    next = λ j within. ap (next_at nodes) (below j (omega (arith, long))) ∙ list.next j (omega (arith, long)) ∙ sym (below (suc j) (omega (arith, long)));
    prev = λ j within. ap (prev_at nodes) (below (suc j) (omega (arith, long))) ∙ list.prev j (omega (arith, long)) ∙ sym (below j (omega (arith, long)));
  }

  -- the neighbours of a node between two others
  pub prev_is : 0 < k → prev_at nodes (slice_index p k) ≡ slice_index p (k - 1)
  prev_is behind = ap (prev_at nodes) (at_index k (suc (k - 1)) (omega arith)) ∙ list.prev (k - 1) (omega arith)

  pub next_is : suc k < length p → next_at nodes (slice_index p k) ≡ slice_index p (suc k)
  next_is before = list.next k before

  -- a node between two others leaves
  pub IsList-without_inner : (once : (i : ℕ) → times i p ≤ 1) (new : List (Node T)) → 0 < k → suc k < length p → Joins nodes new (prev_at nodes (slice_index p k)) (next_at nodes (slice_index p k)) → IsList new (record { first = ends.first; last = ends.last; len = ends.len - 1 }) (remove p k)
  IsList-without_inner once new behind before joins = record {
    len = omega (arith, long, list.len);
    first = λ some. list.first (omega arith) ∙ sym (below 0 behind);
    last = λ some. list.last (omega arith) ∙ at_index (length p - 1) (suc (length rest - 1)) (omega (arith, long)) ∙ sym (above (length rest - 1) (omega (arith, long)));
    next = next_links;
    prev = prev_links;
  }
    where
      next_links : (j : ℕ) → suc j < length rest → next_at new (slice_index rest j) ≡ slice_index rest (suc j)
      next_links j within =
          elim (cases_order (suc j) k) [
            | inl same ↦ ap (next_at new) (below j (omega arith) ∙ at_index j (k - 1) (omega arith) ∙ sym (prev_is behind)) ∙ joins.next ∙ next_is before ∙ at_index (suc k) (suc (suc j)) (omega arith) ∙ sym (above (suc j) (omega arith))
            | inr (inl lower) ↦ ap (next_at new) (below j (omega arith)) ∙ joins.other_next (slice_index p j) (λ equal. absurd (omega (arith, same_index p j (k - 1) once (omega arith) (omega arith) (equal ∙ prev_is behind)))) ∙ list.next j (omega arith) ∙ sym (below (suc j) lower)
            | inr (inr upper) ↦ ap (next_at new) (above j (omega arith)) ∙ joins.other_next (slice_index p (suc j)) (λ equal. absurd (omega (arith, same_index p (suc j) (k - 1) once (omega (arith, long)) (omega arith) (equal ∙ prev_is behind)))) ∙ list.next (suc j) (omega (arith, long)) ∙ sym (above (suc j) (omega arith))
          ]

      prev_links : (j : ℕ) → suc j < length rest → prev_at new (slice_index rest (suc j)) ≡ slice_index rest j
      prev_links j within =
          elim (cases_order (suc j) k) [
            | inl same ↦ ap (prev_at new) (above (suc j) (omega arith) ∙ at_index (suc (suc j)) (suc k) (omega arith) ∙ sym (next_is before)) ∙ joins.prev ∙ prev_is behind ∙ at_index (k - 1) j (omega arith) ∙ sym (below j (omega arith))
            | inr (inl lower) ↦ ap (prev_at new) (below (suc j) lower) ∙ joins.other_prev (slice_index p (suc j)) (λ equal. absurd (omega (arith, same_index p (suc j) (suc k) once (omega arith) before (equal ∙ next_is before)))) ∙ list.prev j (omega arith) ∙ sym (below j (omega arith))
            | inr (inr upper) ↦ ap (prev_at new) (above (suc j) (omega arith)) ∙ joins.other_prev (slice_index p (suc (suc j))) (λ equal. absurd (omega (arith, same_index p (suc (suc j)) (suc k) once (omega (arith, long)) before (equal ∙ next_is before)))) ∙ list.prev (suc j) (omega (arith, long)) ∙ sym (above j (omega arith))
          ]

-- the same, as the code reads the node at an index
module _ {T : Type 0} (nodes : List (Node T)) (ends : Ends) (k at : ℕ) (x : Node T) (node : HasNode nodes ends k) (at_is : at ≡ slice_index (path_of nodes ends) k) (in_nodes : at < length nodes) where
  abbrev p : List ℕ
  p = path_of nodes ends

  list : IsList nodes ends p
  list = node.list

  inside : k < length p
  inside = omega (arith, node.inside, list.len)

  next_read : next_at nodes (slice_index p k) ≡ (get_or nodes at x).next
  next_read = ap (next_at nodes) (sym at_is) ∙ ap (λ (n : Node T). n.next) (get_or_default nodes at no_node x in_nodes)

  prev_read : prev_at nodes (slice_index p k) ≡ (get_or nodes at x).prev
  prev_read = ap (prev_at nodes) (sym at_is) ∙ ap (λ (n : Node T). n.prev) (get_or_default nodes at no_node x in_nodes)

  pub without_first : k ≡ 0 → IsList nodes (record { first = (get_or nodes at x).next; last = ends.last; len = ends.len - 1 }) (remove (path_of nodes ends) k)
  without_first start =
      subst (λ (i : ℕ). IsList nodes (record { first = i; last = ends.last; len = ends.len - 1 }) (remove p k)) next_read (IsList-without_first nodes ends p k list inside start)

  pub without_last : k ≡ ends.len - 1 → IsList nodes (record { first = ends.first; last = (get_or nodes at x).prev; len = ends.len - 1 }) (remove (path_of nodes ends) k)
  without_last end =
      subst (λ (i : ℕ). IsList nodes (record { first = ends.first; last = i; len = ends.len - 1 }) (remove p k)) prev_read (IsList-without_last nodes ends p k list inside (omega (arith, list.len)))

  module _ (behind : k ≢ 0) (before : k ≢ ends.len - 1) where
    positive : 0 < k
    positive = omega arith

    more : suc k < length p
    more = omega (arith, list.len)

    prev_found : (get_or nodes at x).prev ≡ slice_index p (k - 1)
    prev_found = sym prev_read ∙ prev_is nodes ends p k list inside positive

    next_found : (get_or nodes at x).next ≡ slice_index p (suc k)
    next_found = sym next_read ∙ next_is nodes ends p k list inside more

    pub prev_within : (get_or nodes at x).prev < length nodes
    prev_within = omega (arith, prev_found, slice_index-lt (length nodes) p node.apart (k - 1) (omega arith))

    pub next_within : (get_or nodes at x).next < length nodes
    next_within = omega (arith, next_found, slice_index-lt (length nodes) p node.apart (suc k) more)

    module _ (new : List (Node T)) (joins : Joins nodes new (get_or nodes at x).prev (get_or nodes at x).next) where
      pub without_inner : IsList new (record { first = ends.first; last = ends.last; len = ends.len - 1 }) (remove (path_of nodes ends) k)
      without_inner =
          IsList-without_inner nodes ends p k list inside node.apart.once new positive more (subst (λ (i : ℕ). Joins nodes new i (next_at nodes (slice_index p k))) (sym prev_read) (subst (λ (i : ℕ). Joins nodes new (get_or nodes at x).prev i) (sym next_read) joins))

      pub changes_inner : ChangesLinks (path_of nodes ends) nodes new
      changes_inner = ChangesLinks-joined nodes new p _ _ (k - 1) (suc k) (omega arith) more prev_found next_found joins
