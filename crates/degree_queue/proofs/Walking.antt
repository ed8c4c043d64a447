-- Steps along a list.
use Rattle.std.proofs.Common.{◌≡◌, ℕ, ◌+◌, ◌<◌, List, length, get_or, ap, ◌∙◌, arith}
use Rattle.std.specs.List.{slice_index}
use Rattle.std.proofs.lemmas.List.{get_or_default}
use Rattle.degree_queue.specs.declared.links.Node.{Node}
use Rattle.degree_queue.specs.declared.links.Ends.{Ends}
use Rattle.degree_queue.specs.Links.{no_node, next_at, prev_at, IsApart, IsList}
use Rattle.degree_queue.proofs.Counting.{slice_index-lt}

-- the index is that of node number k
pub record IsAt (n : ℕ) (p : List ℕ) (k at : ℕ) : Type 0 where
  pub here : at ≡ slice_index p k
  pub within : at < n

module _ {T : Type 0} (nodes : List (Node T)) (ends : Ends) (p : List ℕ) (list : IsList nodes ends p) (apart : IsApart (length nodes) p) where
  at_number : (k at : ℕ) → k < length p → at ≡ slice_index p k → IsAt (length nodes) p k at
  at_number k at inside here = record { here = here; within = omega (arith, here, slice_index-lt (length nodes) p apart k inside) }

  pub at_first : 0 < ends.len → IsAt (length nodes) p 0 ends.first
  at_first some = at_number 0 ends.first (omega (arith, list.len)) (list.first (omega (arith, list.len)))

  pub at_last : (k : ℕ) → k + 1 ≡ ends.len → IsAt (length nodes) p k ends.last
  at_last k end = at_number k ends.last (omega (arith, list.len)) (list.last (omega (arith, list.len)) ∙ ap (slice_index p) (omega (arith, list.len)))

  module _ (k at : ℕ) (x : Node T) (is : IsAt (length nodes) p k at) where
    pub at_next : k + 1 < ends.len → IsAt (length nodes) p (k + 1) (get_or nodes at x).next
    at_next before =
        let read : (get_or nodes at x).next ≡ next_at nodes at = ap (λ (n : Node T). n.next) (get_or_default nodes at x no_node is.within) in
        at_number (k + 1) _ (omega (arith, list.len)) (read ∙ ap (next_at nodes) is.here ∙ list.next k (omega (arith, list.len)) ∙ ap (slice_index p) (omega arith))

    pub at_prev : (j : ℕ) → j + 1 ≡ k → k < ends.len → IsAt (length nodes) p j (get_or nodes at x).prev
    at_prev j behind inside =
        let read : (get_or nodes at x).prev ≡ prev_at nodes at = ap (λ (n : Node T). n.prev) (get_or_default nodes at x no_node is.within) in
        at_number j _ (omega (arith, list.len)) (read ∙ ap (prev_at nodes) (is.here ∙ ap (slice_index p) (omega arith)) ∙ list.prev j (omega (arith, list.len)))
