use Rattle.std.proofs.Common.{ap, ◌∙◌}
use Rattle.std.specs.Option.{is_some}
use Rattle.std.proofs.lemmas.Iterator.Adapters.{position_from-zero}
use Rattle.shelf_io.proofs.SlotLemmas.{has, admitted_from}
use Rattle.shelf_io.proofs.slots.is_admitted.Goals as goal

pub returns : goal.returns
returns c =
    c.is_some.ensures
    ∙ ap is_some (c.index_of.ensures.first ∙ position_from-zero (has c.args.name.now) c.args.slots.now)
    ∙ admitted_from c.args.name.now c.args.slots.now 0
