use Rattle.std.proofs.Common.{arith, sym, ◌∙◌, ◌<◌}
use Rattle.linked_terms.proofs.Steps.{right_in, item_right, item_is, first_is}
use Rattle.linked_terms.proofs.cursor_list.CursorList.peek.Goals as goal

pub index-requires : goal.index-requires
index-requires g c = omega (arith, right_in _ _ _ _ _ _ _ _ c.self.invariant (omega (arith, c.if-self-eq0.false)))

pub returns : goal.returns
returns g c =
    let i = c.self.inside in
    let some : 0 < i.after = omega (arith, c.if-self-eq0.false) in
    let r = item_right i.nodes.items i.head i.left i.right i.free i.before i.after i.spare c.self.invariant some in
    let item = item_is i.nodes.items i.right c.index.result.now (right_in _ _ _ _ _ _ _ _ c.self.invariant some) c.index.ensures in
    let value = c.as_ref.ensures.value ∙ (sym item ∙ r.1) in
    rw (← c.self.view_is) (first_is c.as_ref.result r.0 _ _ value r.2)
