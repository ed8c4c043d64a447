use Rattle.std.proofs.Common.{subst}
use Rattle.witness.specs.Tracking.{values_of}
use Rattle.worked_bases.specs.Elements.{IsNext}
use Rattle.worked_bases.proofs.Elements.{longer_basis}
use Rattle.worked_bases.proofs.expansions.four_elements.Goals as goal

pub returns : goal.returns
returns c =
    let p = c.args.p.now in
    let v = c.push_place.new.self in
    let t = c.in_ok-t.t in
    longer_basis p c.requires c.in_ok-b.b.elements.items t 4 c.in_ok-b.b.order v c.push.new.self.items c.in_ok-b.ensures.elements c.in_ok-b.ensures.order
    c.in_ok-push_place.ensures.x c.in_ok-push_place.ensures.s
    (subst (λ l. IsNext p v (values_of l) 4 t) c.as_slice.ensures.value c.in_ok-t.ensures) c.in_ok-push.ensures.items
