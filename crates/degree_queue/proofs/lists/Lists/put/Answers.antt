use Rattle.std.proofs.Common.{◌∙◌}
use Rattle.std.proofs.lemmas.List.{with_items_is}
use Rattle.degree_queue.proofs.AsRead.{can_put, last_empty, put_sound, put_last, put_others}
use Rattle.degree_queue.proofs.lists.Lists.put.Goals as goal

pub move_and_put-requires-clause-can : goal.move_and_put-requires-clause-can
move_and_put-requires-clause-can g c =
    can_put c.args.self.now.nodes.items _ c.args.self.now.heads.items c.args.self.now.free _ c.args.degree c.requires.sound c.as_mut_slice.ensures.value c.index.ensures c.requires.room.ends c.requires.room.node

pub move_and_put-requires-clause-empty : goal.move_and_put-requires-clause-empty
move_and_put-requires-clause-empty g c =
    last_empty c.args.self.now.nodes.items _ c.args.self.now.heads.items c.args.self.now.free _ c.args.degree c.requires.sound c.as_mut_slice.ensures.value c.index.ensures c.requires.room.ends c.requires.room.node

pub returns-clause-sound : goal.returns-clause-sound
returns-clause-sound g c =
    put_sound c.args.self.now.nodes.items _ c.args.self.now.heads.items c.args.self.now.free _ c.args.degree c.requires.sound c.as_mut_slice.ensures.value c.index.ensures c.requires.room.ends c.requires.room.node c.move_and_put.new.nodes _ c.move_and_put.new.to c.move_and_put.new.from c.args.item (with_items_is c.args.self.now.nodes c.move_and_put.new.nodes (c.move_and_put.ensures.long ∙ c.as_mut_slice.ensures.len)) c.move_and_put.ensures

pub returns-clause-last : goal.returns-clause-last
returns-clause-last g c =
    put_last c.args.self.now.nodes.items _ c.args.self.now.heads.items c.args.self.now.free _ c.args.degree c.requires.sound c.as_mut_slice.ensures.value c.index.ensures c.requires.room.ends c.requires.room.node c.move_and_put.new.nodes _ c.move_and_put.new.to c.move_and_put.new.from c.args.item (with_items_is c.args.self.now.nodes c.move_and_put.new.nodes (c.move_and_put.ensures.long ∙ c.as_mut_slice.ensures.len)) c.move_and_put.ensures

pub returns-clause-others : goal.returns-clause-others
returns-clause-others g c =
    put_others c.args.self.now.nodes.items _ c.args.self.now.heads.items c.args.self.now.free _ c.args.degree c.requires.sound c.as_mut_slice.ensures.value c.index.ensures c.requires.room.ends c.requires.room.node c.move_and_put.new.nodes _ c.move_and_put.new.to c.move_and_put.new.from c.args.item (with_items_is c.args.self.now.nodes c.move_and_put.new.nodes (c.move_and_put.ensures.long ∙ c.as_mut_slice.ensures.len)) c.move_and_put.ensures
