use Rattle.std.proofs.Common.{◌≡◌, Some, string_bytes, ap, sym, ◌∙◌, arith}
use Rattle.std.proofs.Math.Seq.{map-set_same}
use Rattle.std.specs.FinMap as files
use Rattle.std.specs.List.{position_from, position}
use Rattle.std.specs.Option.{is_some}
use Rattle.std.proofs.lemmas.Iterator.Adapters.{position_from-zero}
use Rattle.shelf_io.specs.Slots.{name_of, files_in}
use Rattle.shelf_io.proofs.SlotLemmas.{has, admitted_from, files_in-set, position_named}
use Rattle.shelf_io.proofs.slots.store.Goals as goal

-- where the name is first
first : (c : goal.After-slots-1) → position_from (has c.args.name.now) 0 c.args.slots.now.items ≡ Some c.in-Some.index
first c =
    sym (position_from-zero (has c.args.name.now) c.args.slots.now.items)
    ∙ ap (position (has c.args.name.now)) (sym c.deref.ensures.value)
    ∙ sym c.index_of.ensures.first ∙ c.in-Some.is

named : (c : goal.After-slots-1) → name_of c.set.new.self ≡ c.args.name.now
named c =
    ap string_bytes c.set.ensures.name
    ∙ ap name_of c.index_mut.ensures.value
    ∙ position_named c.args.name.now c.args.slots.now.items 0 c.in-Some.index c.in-Some.index c.index_mut.result.now (first c) (omega arith)

pub returns-in-Some-clause-names : goal.returns-in-Some-clause-names
returns-in-Some-clause-names c =
    map-set_same name_of c.args.slots.now.items c.in-Some.index c.set.new.self c.index_mut.result.now
    (ap string_bytes c.set.ensures.name ∙ ap name_of c.index_mut.ensures.value)

pub returns-in-Some-clause-found : goal.returns-in-Some-clause-found
returns-in-Some-clause-found c =
    sym (ap is_some (first c)) ∙ admitted_from c.args.name.now c.args.slots.now.items 0

pub returns-in-Some-clause-stored : goal.returns-in-Some-clause-stored
returns-in-Some-clause-stored c =
    files_in-set c.args.name.now c.set.new.self c.set.ensures.present (named c) c.args.slots.now.items c.in-Some.index (first c)
    ∙ ap (files.insert (files_in c.args.slots.now.items) c.args.name.now) c.set.ensures.bytes

pub returns-in-None-clause-found : goal.returns-in-None-clause-found
returns-in-None-clause-found c =
    ap is_some (sym c.in-None.is ∙ c.index_of.ensures.first ∙ ap (position (has c.args.name.now)) c.deref.ensures.value
    ∙ position_from-zero (has c.args.name.now) c.args.slots.now.items)
    ∙ admitted_from c.args.name.now c.args.slots.now.items 0
