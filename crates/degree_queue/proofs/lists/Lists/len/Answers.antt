use Rattle.std.proofs.Common.{List, ap, sym, ◌∙◌, get_or}
use Rattle.degree_queue.specs.declared.links.Ends.{Ends}
use Rattle.degree_queue.specs.Links.{no_ends}
use Rattle.degree_queue.proofs.Partition.{length-list}
use Rattle.degree_queue.proofs.lists.Lists.len.Goals as goal

pub returns-in-Some : goal.returns-in-Some
returns-in-Some g c =
    let read = c.in-Some.ensures.lookup.3.1 no_ends ∙ ap (λ (heads : List Ends). get_or heads c.args.degree no_ends) c.deref.ensures.value in
    ap (λ (e : Ends). e.len) read ∙ sym (length-list _ _ _ c.requires c.args.degree)
