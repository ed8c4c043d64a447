use Rattle.std.proofs.Common.{◌≡◌, ◌<◌, arith, refl, sym, ap, ◌∙◌}
use Rattle.linked_terms.specs.Links.{next_at}
use Rattle.linked_terms.proofs.Nodes.{cursor_is}
use Rattle.linked_terms.proofs.Steps.{next_is, item_is, item_right, left_in, right_in, emptied_first, emptied_next, remove_step, taken_is}
use Rattle.linked_terms.proofs.cursor_list.CursorList.remove.Goals as goal
use Rattle.linked_terms.proofs.cursor_list.CursorList.remove.Goals.{then-self-eq0-2, else-self-eq0-2}

pub index_mut-requires : goal.index_mut-requires
index_mut-requires g c =
    omega (arith, right_in _ _ _ _ _ _ _ _ c.self.invariant (omega (arith, c.if-self-eq0.false)))

pub index_mut-node-requires : goal.index_mut-node-requires
index_mut-node-requires g c =
    omega (arith, left_in _ _ _ _ _ _ _ _ c.self.invariant (omega (arith, c.if-self-eq0-2.false)))

pub invariant_of-self : goal.invariant_of-self
invariant_of-self g c =
    let i = c.self.inside in
    let s = c.self.invariant in
    let some : 0 < i.after = omega (arith, c.if-self-eq0.false) in
    let x = c.replace-taken.ensures.after in
    let there = right_in i.nodes.items i.head i.left i.right i.free i.before i.after i.spare s some in
    let next : c.replace-taken.result.next ≡ next_at i.nodes.items i.right =
    ap (λ n. n.next) c.replace-taken.ensures.value ∙ sym (next_is i.nodes.items i.right _ there c.index_mut.ensures.value) in
    elim c.if-self-eq0-2.branch [
      | then-self-eq0-2 w ↦
          rw w.self-inside-is
          (remove_step i.nodes.items i.head i.left i.right i.free i.before i.after i.spare s some _ x _ next _ _
          (emptied_first i.nodes.items i.head i.left i.right i.free i.before i.after i.spare s some _ x _ next w.if-self-eq0-2.true)).0
      | else-self-eq0-2 w ↦
          rw w.self-inside-is
          (remove_step i.nodes.items i.head i.left i.right i.free i.before i.after i.spare s some _ x _ next _ _
          (emptied_next i.nodes.items i.head i.left i.right i.free i.before i.after i.spare s some _ x _ next
          (omega (arith, w.if-self-eq0-2.false)) _ w.index_mut-node.ensures.value)).0
    ]

pub returns : goal.returns
returns g c =
    let i = c.self.inside in
    let s = c.self.invariant in
    let some : 0 < i.after = omega (arith, c.if-self-eq0.false) in
    let x = c.replace-taken.ensures.after in
    let there = right_in i.nodes.items i.head i.left i.right i.free i.before i.after i.spare s some in
    let next : c.replace-taken.result.next ≡ next_at i.nodes.items i.right =
    ap (λ n. n.next) c.replace-taken.ensures.value ∙ sym (next_is i.nodes.items i.right _ there c.index_mut.ensures.value) in
    let first = item_right i.nodes.items i.head i.left i.right i.free i.before i.after i.spare s some in
    let item = ap (λ n. n.item) c.replace-taken.ensures.value ∙ (sym (item_is i.nodes.items i.right _ there c.index_mut.ensures.value) ∙ first.1) in
    rw (← c.self.view_is)
    (elim c.if-self-eq0-2.branch [
      | then-self-eq0-2 w ↦
          let r = remove_step i.nodes.items i.head i.left i.right i.free i.before i.after i.spare s some _ x _ next _ _
          (emptied_first i.nodes.items i.head i.left i.right i.free i.before i.after i.spare s some _ x _ next w.if-self-eq0-2.true) in
          rw w.self-inside-is (taken_is _ _ _ _ _ item first.2 (cursor_is _ _ _ _ _ _ r.1 r.2 refl))
      | else-self-eq0-2 w ↦
          let r = remove_step i.nodes.items i.head i.left i.right i.free i.before i.after i.spare s some _ x _ next _ _
          (emptied_next i.nodes.items i.head i.left i.right i.free i.before i.after i.spare s some _ x _ next
          (omega (arith, w.if-self-eq0-2.false)) _ w.index_mut-node.ensures.value) in
          rw w.self-inside-is (taken_is _ _ _ _ _ item first.2 (cursor_is _ _ _ _ _ _ r.1 r.2 refl))
    ])
