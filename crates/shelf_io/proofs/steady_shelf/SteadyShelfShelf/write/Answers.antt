use Rattle.shelf_io.specs.Slots.{files_in}
use Rattle.shelf_io.proofs.SteadyLemmas.{known_written}
use Rattle.shelf_io.proofs.steady_shelf.SteadyShelfShelf.write.Goals as goal

pub returns-else-not-store-clause-held : goal.returns-else-not-store-clause-held
returns-else-not-store-clause-held c =
    known_written c.args.self.now.is_known (files_in c.args.self.now.slots.items) (files_in c.store.new.slots.items)
    c.args.name.now c.args.bytes.now c.if-not-store.ensures.stored
