use Rattle.std.proofs.Common.{arith, refl}
use Rattle.linked_terms.proofs.Nodes.{cursor_is}
use Rattle.linked_terms.proofs.Steps.{some_after, right_in, advance_sound, advance_items}
use Rattle.linked_terms.proofs.cursor_list.CursorList.advance.Goals as goal

pub index-requires : goal.index-requires
index-requires g c =
    omega (arith, right_in _ _ _ _ _ _ _ _ c.self.invariant (some_after _ _ _ _ _ _ _ _ c.self.invariant (rw (← c.self.view_is) at c.requires)))

pub invariant_of-self : goal.invariant_of-self
invariant_of-self g c =
    advance_sound _ _ _ _ _ _ _ _ c.self.invariant (some_after _ _ _ _ _ _ _ _ c.self.invariant (rw (← c.self.view_is) at c.requires)) _ c.index.ensures

pub returns : goal.returns
returns g c x rest e =
    let i = c.self.inside in
    let r = advance_items i.nodes.items i.head i.left i.right i.free i.before i.after i.spare c.self.invariant
    (some_after _ _ _ _ _ _ _ _ c.self.invariant (rw (← c.self.view_is) at c.requires)) _ c.index.ensures x rest (rw (← c.self.view_is) at e) in
    rw (← c.self.view_is) (cursor_is _ _ _ _ _ _ r.0 r.1 refl)
