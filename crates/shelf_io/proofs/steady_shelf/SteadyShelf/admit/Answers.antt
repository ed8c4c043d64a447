use Rattle.std.proofs.Common.{map, sym, ap, ◌∙◌}
use Rattle.shelf_io.specs.SteadyShelf.{is_admitted}
use Rattle.shelf_io.specs.Slots.{name_of}
use Rattle.shelf_io.proofs.SteadyLemmas.{name_added}
use Rattle.shelf_io.proofs.steady_shelf.SteadyShelf.admit.Goals as goal

pub returns-clause-ok : goal.returns-clause-ok
returns-clause-ok c =
    let self = c.args.self.now in
    name_added self.room self.slots.items c.push.new.self.items c.in_ok-slot.slot self.is_known c.args.name.now
    c.in_ok-push.ensures.items c.in_ok-slot.ensures.absent c.in_ok-slot.ensures.name
    (ap (λ slots. is_admitted (map name_of slots) c.args.name.now) (sym c.deref.ensures.value) ∙ sym c.is_admitted.ensures ∙ c.if-is_admitted.false)
