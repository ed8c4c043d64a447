use Rattle.std.proofs.Common.{arith}
use Rattle.linked_terms.proofs.Nodes.{length_before, length_after}
use Rattle.linked_terms.proofs.cursor_list.CursorList.len.Goals as goal

pub returns : goal.returns
returns g c =
    let i = c.self.inside in
    rw (← c.self.view_is) (omega (arith, length_before _ _ _ _ _ _ _ _ c.self.invariant, length_after _ _ _ _ _ _ _ _ c.self.invariant))
