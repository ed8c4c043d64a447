use Rattle.std.proofs.Common.{Some, option_map, ap, sym, ◌∙◌}
use Rattle.shelf_io.proofs.Recorded.{stored_by, get-files_after}
use Rattle.shelf_io.proofs.memory_shelf.stored.Goals as goal

pub returns-in-Some : goal.returns-in-Some
returns-in-Some c =
    ap Some c.stored.ensures ∙ ap (option_map stored_by) c.in-Some.ensures ∙ sym (get-files_after c.args.writes.now c.args.name.now)

pub returns-in-None : goal.returns-in-None
returns-in-None c = ap (option_map stored_by) c.in-None.ensures ∙ sym (get-files_after c.args.writes.now c.args.name.now)
