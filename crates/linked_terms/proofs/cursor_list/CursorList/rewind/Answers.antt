use Rattle.std.proofs.Common.{refl}
use Rattle.linked_terms.proofs.Nodes.{cursor_is, sound_rewind, items_rewind}
use Rattle.linked_terms.proofs.cursor_list.CursorList.rewind.Goals as goal

pub invariant_of-self : goal.invariant_of-self
invariant_of-self g c = sound_rewind _ _ _ _ _ _ _ _ c.self.invariant

pub returns : goal.returns
returns g c = rw (← c.self.view_is) (cursor_is _ _ _ _ _ _ refl (items_rewind _ _ _ _ _ _ _ _ c.self.invariant) refl)
