use Rattle.worked_bases.proofs.Elements.{low_degrees}
use Rattle.worked_bases.proofs.expansions.expansion.Goals as goal

pub expand-requires-clause-order : goal.expand-requires-clause-order
expand-requires-clause-order c = c.requires.basis.order

pub expand-requires-clause-elements : goal.expand-requires-clause-elements
expand-requires-clause-elements c = c.requires.basis.elements

pub expand-requires-clause-small : goal.expand-requires-clause-small
expand-requires-clause-small c = low_degrees c.args.p.now c.requires.valid c.args.w.now c.in_ok-h.h c.in_ok-h.ensures.low

pub witness_text-requires : goal.witness_text-requires
witness_text-requires c = (c.args.p.now.gen_order, c.in_ok-e.ensures.canonical)
