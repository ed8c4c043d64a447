use Rattle.degree_queue.proofs.Unlinking.{without_first, without_last, without_inner, changes_inner, prev_within, next_within}
use Rattle.degree_queue.proofs.links.unlink.Goals as goal

pub returns-then-k-eq0-clause-list : goal.returns-then-k-eq0-clause-list
returns-then-k-eq0-clause-list g c =
    without_first c.args.nodes.now c.args.ends.now c.args.k c.args.at _ c.requires.node c.requires.at c.requires.within c.if-k-eq0.true

pub returns-then-k-ends-clause-list : goal.returns-then-k-ends-clause-list
returns-then-k-ends-clause-list g c =
    without_last c.args.nodes.now c.args.ends.now c.args.k c.args.at _ c.requires.node c.requires.at c.requires.within c.if-k-ends.true

pub join-requires-clause-a : goal.join-requires-clause-a
join-requires-clause-a g c =
    prev_within c.args.nodes.now c.args.ends.now c.args.k c.args.at _ c.requires.node c.requires.at c.requires.within c.if-k-eq0.false c.if-k-ends.false

pub join-requires-clause-b : goal.join-requires-clause-b
join-requires-clause-b g c =
    next_within c.args.nodes.now c.args.ends.now c.args.k c.args.at _ c.requires.node c.requires.at c.requires.within c.if-k-eq0.false c.if-k-ends.false

pub returns-else-k-ends-clause-list : goal.returns-else-k-ends-clause-list
returns-else-k-ends-clause-list g c =
    without_inner c.args.nodes.now c.args.ends.now c.args.k c.args.at _ c.requires.node c.requires.at c.requires.within c.if-k-eq0.false c.if-k-ends.false _ c.join.ensures

pub returns-else-k-ends-clause-others : goal.returns-else-k-ends-clause-others
returns-else-k-ends-clause-others g c =
    changes_inner c.args.nodes.now c.args.ends.now c.args.k c.args.at _ c.requires.node c.requires.at c.requires.within c.if-k-eq0.false c.if-k-ends.false _ c.join.ensures
