use Rattle.std.proofs.Common.{◌-◌, arith, refl, ◌∙◌}
use Rattle.linked_terms.proofs.Steps.{grow_step}
use Rattle.linked_terms.proofs.cursor_list.CursorList.reserve.Goals as goal

pub loop-self-preserved : goal.loop-self-preserved
loop-self-preserved g c =
    let i = c.loop-self.self-inside in
    let r = grow_step i.nodes.items i.head i.left i.right i.free i.before i.after i.spare c.loop-self.invariant.sound _ refl (c.len.result - 1)
    (omega (arith, c.push_reserved.ensures.len)) in
    record {
      sound = rw c.push_reserved.ensures.items r.0;
      left_same = rw c.push_reserved.ensures.items (r.1 ∙ c.loop-self.invariant.left_same);
      right_same = rw c.push_reserved.ensures.items (r.2 ∙ c.loop-self.invariant.right_same);
      room = omega (arith, c.push_reserved.ensures.len, c.push_reserved.ensures.capacity, c.loop-self.invariant.room);
    }
