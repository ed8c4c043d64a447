use Rattle.subduction.proofs.Singles.{single_canonical, single_same}
use Rattle.subduction.proofs.term_sum.single_term.Goals as goal

pub returns-clause-canonical : goal.returns-clause-canonical
returns-clause-canonical g c =
    single_canonical (g.F.Field.ops c.args.f.now) (g.met.F.Field.laws c.args.f.now) c.args.t.now c.in_ok-term.term c.in_ok-copy.field-0 c.in_ok-copy.ensures.same
    c.in_ok-term.ensures.zero c.in_ok-term.ensures.term (g.O.Order.order c.args._o.now) c.requires.term c.requires.small

pub returns-clause-same : goal.returns-clause-same
returns-clause-same g c =
    single_same (g.F.Field.ops c.args.f.now) (g.met.F.Field.laws c.args.f.now) c.args.t.now c.in_ok-term.term c.in_ok-copy.field-0 c.in_ok-copy.ensures.same
    c.in_ok-term.ensures.zero c.in_ok-term.ensures.term
