use Rattle.std.proofs.Common.{◌≡◌, Option, is_some, true, false, ◌∙◌, subst}
use Rattle.degree_queue.proofs.Partition.{degree_within}
use Rattle.degree_queue.proofs.AsRead.{has_node, item_full, item_found, item_of}
use Rattle.degree_queue.proofs.lists.Lists.get.Goals as goal

pub index_at-at-requires : goal.index_at-at-requires
index_at-at-requires g c =
    has_node c.args.self.now.nodes.items _ c.args.self.now.heads.items c.args.self.now.free _ c.args.degree c.requires.sound c.as_slice.ensures.value c.index.ensures (degree_within _ c.args.self.now.heads.items c.args.degree c.args.k c.requires.inside) c.args.k c.requires.inside

pub unreachable-requires : goal.unreachable-requires
unreachable-requires g c =
    let found = item_of c.args.self.now.nodes.items _ c.args.self.now.heads.items c.args.self.now.free _ c.args.degree c.requires.sound c.as_slice.ensures.value c.index.ensures (degree_within _ c.args.self.now.heads.items c.args.degree c.args.k c.requires.inside) c.index_at-at.result c.index-2.result.now c.index-2.ensures c.index_at-at.ensures.within in
    let full = item_full c.args.self.now.nodes.items _ c.args.self.now.heads.items c.args.self.now.free _ c.args.degree c.requires.sound c.as_slice.ensures.value c.index.ensures (degree_within _ c.args.self.now.heads.items c.args.degree c.args.k c.requires.inside) c.args.k c.index_at-at.result c.requires.inside c.index_at-at.ensures.at in
    let none : false ≡ true = subst (λ (o : Option g.row.T.Denot). is_some o ≡ true) (found ∙ c.in-None.is) full in
    cc

pub returns : goal.returns
returns g c =
    item_found c.args.self.now.nodes.items _ c.args.self.now.heads.items c.args.self.now.free _ c.args.degree c.requires.sound c.as_slice.ensures.value c.index.ensures (degree_within _ c.args.self.now.heads.items c.args.degree c.args.k c.requires.inside) c.args.k c.index_at-at.result c.requires.inside c.index_at-at.ensures.at
    ∙ item_of c.args.self.now.nodes.items _ c.args.self.now.heads.items c.args.self.now.free _ c.args.degree c.requires.sound c.as_slice.ensures.value c.index.ensures (degree_within _ c.args.self.now.heads.items c.args.degree c.args.k c.requires.inside) c.index_at-at.result c.index-2.result.now c.index-2.ensures c.index_at-at.ensures.within
    ∙ c.in-Some.is
