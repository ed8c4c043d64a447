use Rattle.std.proofs.Common.{length, refl}
use Rattle.shelf_io.specs.MemoryShelf.{shelf_state, held_files}
use Rattle.worked_lists.proofs.stops.save_both_in_memory.Goals as goal

pub returns : goal.returns
returns c = λ found stop.
    c.save_both.ensures (held_files (shelf_state c.args.shelf.now)) (held_files (shelf_state c.save_both.new.shelf)) found
    (length (shelf_state c.args.shelf.now).writes) refl refl refl stop
