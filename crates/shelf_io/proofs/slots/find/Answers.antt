use Rattle.std.proofs.Common.{Some, option_map, ap, sym, ◌∙◌}
use Rattle.shelf_io.proofs.SlotLemmas.{bytes_of, get-files_in}
use Rattle.shelf_io.proofs.slots.find.Goals as goal

pub returns-in-Some : goal.returns-in-Some
returns-in-Some c =
    ap Some c.as_slice.ensures.value ∙ ap (option_map bytes_of) c.in-Some.ensures ∙ sym (get-files_in c.args.slots.now c.args.name.now)

pub returns-in-None : goal.returns-in-None
returns-in-None c = ap (option_map bytes_of) c.in-None.ensures ∙ sym (get-files_in c.args.slots.now c.args.name.now)
