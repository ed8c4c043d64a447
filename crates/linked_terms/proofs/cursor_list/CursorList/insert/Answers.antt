use Rattle.std.proofs.Common.{◌≡◌, ◌<◌, arith, refl, sym, ap, ◌∙◌}
use Rattle.linked_terms.specs.Links.{next_at}
use Rattle.linked_terms.proofs.Nodes.{cursor_is}
use Rattle.linked_terms.proofs.Steps.{next_is, left_in, free_in, filled_first, filled_next, insert_step}
use Rattle.linked_terms.proofs.cursor_list.CursorList.insert.Goals as goal
use Rattle.linked_terms.proofs.cursor_list.CursorList.insert.Goals.{then-self-eq0, else-self-eq0}

pub index_mut-requires : goal.index_mut-requires
index_mut-requires g c =
    let some : 0 < c.self.inside.spare = rw (← c.self.view_is) at c.requires in
    omega (arith, free_in _ _ _ _ _ _ _ _ c.self.invariant some c.args.item _ refl)

pub index_mut-node-requires : goal.index_mut-node-requires
index_mut-node-requires g c =
    omega (arith, left_in _ _ _ _ _ _ _ _ c.self.invariant (omega (arith, c.if-self-eq0.false)))

pub invariant_of-self : goal.invariant_of-self
invariant_of-self g c =
    let i = c.self.inside in
    let s = c.self.invariant in
    let some : 0 < i.spare = rw (← c.self.view_is) at c.requires in
    let x = c.replace-vacant.ensures.after in
    let there = free_in i.nodes.items i.head i.left i.right i.free i.before i.after i.spare s some c.args.item _ x in
    let next : c.replace-vacant.result.next ≡ next_at i.nodes.items i.free =
    ap (λ n. n.next) c.replace-vacant.ensures.value ∙ sym (next_is i.nodes.items i.free _ there c.index_mut.ensures.value) in
    elim c.if-self-eq0.branch [
      | then-self-eq0 w ↦
          rw w.self-inside-is
          (insert_step i.nodes.items i.head i.left i.right i.free i.before i.after i.spare s some c.args.item _ x _ _ _
          (filled_first i.nodes.items i.head i.left i.right i.free i.before i.after i.spare s some c.args.item _ x w.if-self-eq0.true) next).0
      | else-self-eq0 w ↦
          rw w.self-inside-is
          (insert_step i.nodes.items i.head i.left i.right i.free i.before i.after i.spare s some c.args.item _ x _ _ _
          (filled_next i.nodes.items i.head i.left i.right i.free i.before i.after i.spare s some c.args.item _ x
          (omega (arith, w.if-self-eq0.false)) _ w.index_mut-node.ensures.value) next).0
    ]

pub returns : goal.returns
returns g c =
    let i = c.self.inside in
    let s = c.self.invariant in
    let some : 0 < i.spare = rw (← c.self.view_is) at c.requires in
    let x = c.replace-vacant.ensures.after in
    let there = free_in i.nodes.items i.head i.left i.right i.free i.before i.after i.spare s some c.args.item _ x in
    let next : c.replace-vacant.result.next ≡ next_at i.nodes.items i.free =
    ap (λ n. n.next) c.replace-vacant.ensures.value ∙ sym (next_is i.nodes.items i.free _ there c.index_mut.ensures.value) in
    rw (← c.self.view_is)
    (elim c.if-self-eq0.branch [
      | then-self-eq0 w ↦
          let r = insert_step i.nodes.items i.head i.left i.right i.free i.before i.after i.spare s some c.args.item _ x _ _ _
          (filled_first i.nodes.items i.head i.left i.right i.free i.before i.after i.spare s some c.args.item _ x w.if-self-eq0.true) next in
          rw w.self-inside-is (cursor_is _ _ _ _ _ _ r.1 r.2 refl)
      | else-self-eq0 w ↦
          let r = insert_step i.nodes.items i.head i.left i.right i.free i.before i.after i.spare s some c.args.item _ x _ _ _
          (filled_next i.nodes.items i.head i.left i.right i.free i.before i.after i.spare s some c.args.item _ x
          (omega (arith, w.if-self-eq0.false)) _ w.index_mut-node.ensures.value) next in
          rw w.self-inside-is (cursor_is _ _ _ _ _ _ r.1 r.2 refl)
    ])
