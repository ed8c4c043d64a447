use Rattle.degree_queue.proofs.Counting.{IsApart-left}
use Rattle.degree_queue.proofs.Paths.{IsList-path_of}
use Rattle.degree_queue.proofs.Moving.{to_list, to_path, to_apart, from_list, changes_both}
use Rattle.degree_queue.proofs.links.move_last.Goals as goal

pub unlink-requires-clause-node : goal.unlink-requires-clause-node
unlink-requires-clause-node g c = record {
  list = c.requires.from_list;
  apart = IsApart-left _ _ _ c.requires.apart;
  inside = c.requires.inside;
}

pub link_last-requires-clause-list : goal.link_last-requires-clause-list
link_last-requires-clause-list g c =
    IsList-path_of _ _ _ (to_list _ _ c.unlink.new.nodes _ _ _ _ c.requires c.unlink.ensures.others)

pub link_last-requires-clause-apart : goal.link_last-requires-clause-apart
link_last-requires-clause-apart g c =
    let same = to_path _ _ c.unlink.new.nodes _ _ _ _ c.requires c.unlink.ensures.others in
    rw same (to_apart _ _ c.unlink.new.nodes _ _ _ _ c.requires c.unlink.ensures.others)

pub returns-clause-from : goal.returns-clause-from
returns-clause-from g c =
    let same = to_path _ _ c.unlink.new.nodes _ _ _ _ c.requires c.unlink.ensures.others in
    from_list _ _ c.link_last.new.nodes _ _ _ _ c.requires c.unlink.ensures.others _ (rw same at c.link_last.ensures.others) c.unlink.ensures.list

pub returns-clause-to : goal.returns-clause-to
returns-clause-to g c =
    let same = to_path _ _ c.unlink.new.nodes _ _ _ _ c.requires c.unlink.ensures.others in
    rw same at c.link_last.ensures.list

pub returns-clause-others : goal.returns-clause-others
returns-clause-others g c =
    let same = to_path _ _ c.unlink.new.nodes _ _ _ _ c.requires c.unlink.ensures.others in
    changes_both _ _ c.link_last.new.nodes _ _ _ _ c.requires c.unlink.ensures.others (rw same at c.link_last.ensures.others)
