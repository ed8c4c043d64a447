use Rattle.std.proofs.Common.{◌≡◌, ◌+◌, ◌-◌, ◌≤◌, vec_len, vec_capacity}
use Rattle.linked_terms.specs.Links.{items, IsSound}
use Rattle.linked_terms.proofs.cursor_list.CursorList.reserve.Given as goal

abbrev pub invariant-loop-self : goal.invariant-loop-self
invariant-loop-self g l =
    let i = l.self-inside in
    let j = l.initial.self-inside in
    record {
      sound : IsSound i.nodes.items i.head i.left i.right i.free i.before i.after i.spare;
      left_same : items i.nodes.items i.before i.head ≡ items j.nodes.items j.before j.head;
      right_same : items i.nodes.items i.after i.right ≡ items j.nodes.items j.after j.right;
      room : l.n + vec_len i.nodes ≤ Rattle.std.specs.Prelude.vec_capacity i.nodes + i.spare;
    }

abbrev pub decreases-loop-self : goal.decreases-loop-self
decreases-loop-self g l = l.n - l.self-inside.spare
