use Rattle.std.proofs.Common.{◌++◌, ◌∷◌, [], arith}
use Rattle.std.proofs.lemmas.List.{length_push}
use Rattle.degree_queue.specs.Links.{path_of}
use Rattle.degree_queue.proofs.Counting.{length-le}
use Rattle.degree_queue.proofs.Linking.{at_within, last_within, with_last, changes_last}
use Rattle.degree_queue.proofs.links.link_last.Goals as goal

pub overflow_add-ends : goal.overflow_add-ends
overflow_add-ends g c =
    let path = path_of c.args.nodes.now c.args.ends.now in
    let short = length-le _ (path ++ c.args.at ∷ []) c.requires.apart in
    omega (arith, short, length_push path c.args.at, c.requires.list.len)

pub join-requires-clause-a : goal.join-requires-clause-a
join-requires-clause-a g c = last_within c.args.nodes.now c.args.ends.now _ c.args.at c.requires.list c.requires.apart c.if-ends-eq1.false

pub join-requires-clause-b : goal.join-requires-clause-b
join-requires-clause-b g c = at_within c.args.nodes.now c.args.ends.now _ c.args.at c.requires.list c.requires.apart

pub returns-else-ends-eq1-clause-list : goal.returns-else-ends-eq1-clause-list
returns-else-ends-eq1-clause-list g c = with_last c.args.nodes.now c.args.ends.now _ c.args.at c.requires.list c.requires.apart c.if-ends-eq1.false _ c.join.ensures

pub returns-else-ends-eq1-clause-others : goal.returns-else-ends-eq1-clause-others
returns-else-ends-eq1-clause-others g c = changes_last c.args.nodes.now c.args.ends.now _ c.args.at c.requires.list c.requires.apart c.if-ends-eq1.false _ c.join.ensures
