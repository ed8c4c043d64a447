use Rattle.polynomials.specs.laws.Terms.{IsSmall-multiple}
use Rattle.poly_core.specs.Presentation.{presented}
use Rattle.subduction.proofs.Cancelling.{few_places, short_monomials, one_time}
use Rattle.subduction.proofs.word_step.chain_of.Goals as goal

pub add_scaled-requires-clause-small : goal.add_scaled-requires-clause-small
add_scaled-requires-clause-small g c =
    let P = presented g.F.Field.ops g.O.Order.order c.args.p.now in
    rw (c.terms.ensures, c.one-one.ensures) (IsSmall-multiple P.field P.order c.one.result c.args.a.now c.requires.a.small)

pub add_scaled-requires-clause-short_terms : goal.add_scaled-requires-clause-short_terms
add_scaled-requires-clause-short_terms g c =
    let P = presented g.F.Field.ops g.O.Order.order c.args.p.now in
    rw c.terms.ensures (short_monomials P c.requires.presentation.presentation (few_places P.order.places c.args.p.now.names c.requires.presentation.names) c.args.a.now c.requires.a)

pub returns : goal.returns
returns g c =
    one_time (presented g.F.Field.ops g.O.Order.order c.args.p.now) c.requires.presentation.presentation c.args.a.now c.add_scaled.new.self.terms c.requires.a c.in_ok-add_scaled.ensures.canonical c.one.result c.one.ensures
    (rw (c.terms.ensures, c.one-one.ensures, c.new-work.ensures.empty) at c.in_ok-add_scaled.ensures.sum)
