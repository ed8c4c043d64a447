use Rattle.std.proofs.Common.{◌≡◌, ℕ, List, ◌++◌, ◌∷◌, [], None, refl, ◌∙◌, sym, ap, arith, subst, length}
use Rattle.degree_queue.specs.declared.links.Node.{Node}
use Rattle.degree_queue.specs.Lists.{IsPartition}
use Rattle.degree_queue.proofs.Partition.{all_items}
use Rattle.degree_queue.proofs.Rooms.{IsPartition-one_free, same_lists}
use Rattle.degree_queue.proofs.lists.Lists.reserve_node.Goals as goal

pub returns-clause-sound : goal.returns-clause-sound
returns-clause-sound g c =
    let nodes = c.args.self.now.nodes in
    let made = c.push_reserved.ensures.items ∙ ap (λ (x : List (Node g.row.T.Denot)). x ++ record { item = None; prev = 0; next = 0 } ∷ []) c.in_ok-reserve.ensures.items in
    let at : c.len-at.result ≡ length nodes.items = c.len-at.ensures ∙ nodes.ok.0 in
    subst (λ (i : ℕ). IsPartition c.push_reserved.new.self.items c.args.self.now.heads.items (record { first = i; last = i; len = 1 })) (sym at) (subst (λ (x : List (Node g.row.T.Denot)). IsPartition x c.args.self.now.heads.items (record { first = length nodes.items; last = length nodes.items; len = 1 })) (sym made) (IsPartition-one_free nodes.items c.args.self.now.heads.items c.args.self.now.free _ c.requires (omega arith) refl))

pub returns-clause-same : goal.returns-clause-same
returns-clause-same g c =
    let nodes = c.args.self.now.nodes in
    let made = c.push_reserved.ensures.items ∙ ap (λ (x : List (Node g.row.T.Denot)). x ++ record { item = None; prev = 0; next = 0 } ∷ []) c.in_ok-reserve.ensures.items in
    ap (λ (x : List (Node g.row.T.Denot)). all_items x c.args.self.now.heads.items) made ∙ same_lists nodes.items c.args.self.now.heads.items c.args.self.now.free _ c.requires (omega arith) refl
