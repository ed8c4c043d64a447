use Rattle.std.proofs.Common.{List, ◌∙◌, sym, ap, arith}
use Rattle.std.proofs.lemmas.List.{with_items_is}
use Rattle.degree_queue.specs.declared.links.Node.{Node}
use Rattle.degree_queue.specs.Links.{path_of}
use Rattle.std.specs.List.{slice_index}
use Rattle.degree_queue.proofs.Partition.{degree_within}
use Rattle.degree_queue.proofs.AsRead.{has_node, can_take, item_full, item_found, take_sound, take_rest, take_others}
use Rattle.degree_queue.proofs.lists.Lists.take.Goals as goal

pub index_at-at-requires : goal.index_at-at-requires
index_at-at-requires g c =
    has_node c.args.self.now.nodes.items _ c.args.self.now.heads.items c.args.self.now.free _ c.args.degree c.requires.sound c.as_slice.ensures.value c.index.ensures (degree_within _ c.args.self.now.heads.items c.args.degree c.args.k c.requires.inside) c.args.k c.requires.inside

pub move_and_take-item-requires-clause-can : goal.move_and_take-item-requires-clause-can
move_and_take-item-requires-clause-can g c =
    let at = c.index_at-at.ensures.at ∙ ap (λ (x : List (Node g.row.T.Denot)). slice_index (path_of x c.index.result.now) c.args.k) (c.as_slice.ensures.value ∙ sym c.as_mut_slice.ensures.value) in
    can_take c.args.self.now.nodes.items _ c.args.self.now.heads.items c.args.self.now.free _ c.args.degree c.requires.sound c.as_mut_slice.ensures.value c.index.ensures (degree_within _ c.args.self.now.heads.items c.args.degree c.args.k c.requires.inside) c.args.k c.index_at-at.result c.requires.inside at (omega (arith, c.index_at-at.ensures.within, c.as_slice.ensures.len, c.as_mut_slice.ensures.len))

pub move_and_take-item-requires-clause-full : goal.move_and_take-item-requires-clause-full
move_and_take-item-requires-clause-full g c =
    let at = c.index_at-at.ensures.at ∙ ap (λ (x : List (Node g.row.T.Denot)). slice_index (path_of x c.index.result.now) c.args.k) (c.as_slice.ensures.value ∙ sym c.as_mut_slice.ensures.value) in
    item_full c.args.self.now.nodes.items _ c.args.self.now.heads.items c.args.self.now.free _ c.args.degree c.requires.sound c.as_mut_slice.ensures.value c.index.ensures (degree_within _ c.args.self.now.heads.items c.args.degree c.args.k c.requires.inside) c.args.k c.index_at-at.result c.requires.inside at

pub returns-clause-sound : goal.returns-clause-sound
returns-clause-sound g c =
    let at = c.index_at-at.ensures.at ∙ ap (λ (x : List (Node g.row.T.Denot)). slice_index (path_of x c.index.result.now) c.args.k) (c.as_slice.ensures.value ∙ sym c.as_mut_slice.ensures.value) in
    take_sound c.args.self.now.nodes.items _ c.args.self.now.heads.items c.args.self.now.free _ c.args.degree c.requires.sound c.as_mut_slice.ensures.value c.index.ensures (degree_within _ c.args.self.now.heads.items c.args.degree c.args.k c.requires.inside) c.args.k c.index_at-at.result c.requires.inside at c.move_and_take-item.new.nodes _ c.move_and_take-item.new.from c.move_and_take-item.new.to (with_items_is c.args.self.now.nodes c.move_and_take-item.new.nodes (c.move_and_take-item.ensures.moves.long ∙ c.as_mut_slice.ensures.len)) c.move_and_take-item.ensures.moves

pub returns-clause-item : goal.returns-clause-item
returns-clause-item g c =
    let at = c.index_at-at.ensures.at ∙ ap (λ (x : List (Node g.row.T.Denot)). slice_index (path_of x c.index.result.now) c.args.k) (c.as_slice.ensures.value ∙ sym c.as_mut_slice.ensures.value) in
    item_found c.args.self.now.nodes.items _ c.args.self.now.heads.items c.args.self.now.free _ c.args.degree c.requires.sound c.as_mut_slice.ensures.value c.index.ensures (degree_within _ c.args.self.now.heads.items c.args.degree c.args.k c.requires.inside) c.args.k c.index_at-at.result c.requires.inside at ∙ c.move_and_take-item.ensures.item

pub returns-clause-rest : goal.returns-clause-rest
returns-clause-rest g c =
    let at = c.index_at-at.ensures.at ∙ ap (λ (x : List (Node g.row.T.Denot)). slice_index (path_of x c.index.result.now) c.args.k) (c.as_slice.ensures.value ∙ sym c.as_mut_slice.ensures.value) in
    take_rest c.args.self.now.nodes.items _ c.args.self.now.heads.items c.args.self.now.free _ c.args.degree c.requires.sound c.as_mut_slice.ensures.value c.index.ensures (degree_within _ c.args.self.now.heads.items c.args.degree c.args.k c.requires.inside) c.args.k c.index_at-at.result c.requires.inside at c.move_and_take-item.new.nodes _ c.move_and_take-item.new.from c.move_and_take-item.new.to (with_items_is c.args.self.now.nodes c.move_and_take-item.new.nodes (c.move_and_take-item.ensures.moves.long ∙ c.as_mut_slice.ensures.len)) c.move_and_take-item.ensures.moves

pub returns-clause-others : goal.returns-clause-others
returns-clause-others g c =
    let at = c.index_at-at.ensures.at ∙ ap (λ (x : List (Node g.row.T.Denot)). slice_index (path_of x c.index.result.now) c.args.k) (c.as_slice.ensures.value ∙ sym c.as_mut_slice.ensures.value) in
    take_others c.args.self.now.nodes.items _ c.args.self.now.heads.items c.args.self.now.free _ c.args.degree c.requires.sound c.as_mut_slice.ensures.value c.index.ensures (degree_within _ c.args.self.now.heads.items c.args.degree c.args.k c.requires.inside) c.args.k c.index_at-at.result c.requires.inside at c.move_and_take-item.new.nodes _ c.move_and_take-item.new.from c.move_and_take-item.new.to (with_items_is c.args.self.now.nodes c.move_and_take-item.new.nodes (c.move_and_take-item.ensures.moves.long ∙ c.as_mut_slice.ensures.len)) c.move_and_take-item.ensures.moves
