use Rattle.polynomials.specs.laws.Terms.{IsSmall-multiple}
use Rattle.poly_core.specs.Presentation.{presented}
use Rattle.quotient_gb.proofs.Remainders.{short_monomials, one_time}
use Rattle.quotient_gb.proofs.remainder.chain_of.Goals as goal

pub add_scaled-requires-clause-small : goal.add_scaled-requires-clause-small
add_scaled-requires-clause-small g c =
    let P = presented g.F.Field.ops g.O.Order.order c.args.p.now in
    rw (c.terms-2.ensures, c.one-one.ensures) (IsSmall-multiple P.field P.order c.one-2.result c.args.a.now c.requires.a.small)

pub add_scaled-requires-clause-short_terms : goal.add_scaled-requires-clause-short_terms
add_scaled-requires-clause-short_terms g c =
    rw c.terms-2.ensures (short_monomials (presented g.F.Field.ops g.O.Order.order c.args.p.now) c.requires.presentation c.requires.places c.args.a.now c.requires.a)

pub returns : goal.returns
returns g c =
    one_time (presented g.F.Field.ops g.O.Order.order c.args.p.now) c.requires.presentation c.args.a.now c.add_scaled.new.self.terms c.requires.a c.in_ok-add_scaled.ensures.canonical c.one-2.result c.one-2.ensures
    (rw (c.terms-2.ensures, c.one-one.ensures, c.in_ok-reserve.ensures.terms, c.new-work.ensures.empty) at c.in_ok-add_scaled.ensures.sum)
