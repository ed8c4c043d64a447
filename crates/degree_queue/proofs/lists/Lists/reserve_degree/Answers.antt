use Rattle.std.proofs.Common.{◌≡◌, ◌≤◌, ℕ, List, ◌++◌, ◌+◌, ◌-◌, replicate, take, length, ap, sym, ◌∙◌, arith, subst}
use Rattle.std.proofs.lemmas.List.{take_all}
use Rattle.degree_queue.specs.declared.links.Ends.{Ends}
use Rattle.degree_queue.specs.Links.{no_ends}
use Rattle.degree_queue.specs.Lists.{IsPartition}
use Rattle.degree_queue.specs.DegreeQueue.{list_of}
use Rattle.degree_queue.proofs.Partition.{all_items}
use Rattle.degree_queue.proofs.Rooms.{IsPartition-more_ends, same_items}
use Rattle.degree_queue.proofs.lists.Lists.reserve_degree.Goals as goal

-- the ends after a call that makes room
more_ends : (heads new : List Ends) (degree len : ℕ) (empty : Ends) → len ≡ length heads → len ≤ degree → empty ≡ no_ends → new ≡ take (degree + 1) heads ++ replicate (degree + 1 - len) empty → new ≡ heads ++ replicate (degree + 1 - len) no_ends
more_ends heads new degree len empty long short is made =
    made ∙ ap (λ (xs : List Ends). xs ++ replicate (degree + 1 - len) empty) (take_all (degree + 1) heads (omega arith)) ∙ ap (λ (e : Ends). heads ++ replicate (degree + 1 - len) e) is

pub returns-in_ok-resize-clause-sound : goal.returns-in_ok-resize-clause-sound
returns-in_ok-resize-clause-sound g c =
    let heads = c.args.self.now.heads in
    let made = more_ends heads.items _ c.args.degree heads.len _ heads.ok.0 (omega arith) c.empty.ensures c.in_ok-resize.ensures.items in
    subst (λ (x : List Ends). IsPartition c.args.self.now.nodes.items x c.args.self.now.free) (sym made) (IsPartition-more_ends _ _ _ _ c.requires.sound)

pub returns-in_ok-resize-clause-same : goal.returns-in_ok-resize-clause-same
returns-in_ok-resize-clause-same g c =
    let heads = c.args.self.now.heads in
    let made = more_ends heads.items _ c.args.degree heads.len _ heads.ok.0 (omega arith) c.empty.ensures c.in_ok-resize.ensures.items in
    λ degree. ap (λ (x : List Ends). list_of (all_items c.args.self.now.nodes.items x) degree) made ∙ same_items c.args.self.now.nodes.items heads.items c.args.self.now.free _ degree
