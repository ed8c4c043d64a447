use Rattle.std.proofs.Common.{sym, ◌∙◌}
use Rattle.polynomials.specs.laws.Terms.{IsSmall-multiple}
use Rattle.poly_core.specs.Presentation.{presented}
use Rattle.subduction.proofs.Cancelling.{few_places, lead_taken, short_monomials, tail_canonical}
use Rattle.subduction.proofs.word_step.cancel.Goals as goal

pub add_scaled-requires-clause-small : goal.add_scaled-requires-clause-small
add_scaled-requires-clause-small g c =
    let P = presented g.F.Field.ops g.O.Order.order c.args.p.now in
    rw c.one-one.ensures (IsSmall-multiple P.field P.order c.neg-c.result c.in-Some.tail.now
    (tail_canonical P c.requires.presentation.presentation c.args.term.now c.args.work.now.terms c.requires.work c.args.v.now c.in-Some._lead.now c.in-Some.tail.now (sym c.terms.ensures ∙ c.in-Some.ensures.cases.0) c.requires.v c.neg-c.result c.neg-c.ensures).small)

pub add_scaled-requires-clause-short_terms : goal.add_scaled-requires-clause-short_terms
add_scaled-requires-clause-short_terms g c =
    let P = presented g.F.Field.ops g.O.Order.order c.args.p.now in
    short_monomials P c.requires.presentation.presentation (few_places P.order.places c.args.p.now.names c.requires.presentation.names) c.in-Some.tail.now
    (tail_canonical P c.requires.presentation.presentation c.args.term.now c.args.work.now.terms c.requires.work c.args.v.now c.in-Some._lead.now c.in-Some.tail.now (sym c.terms.ensures ∙ c.in-Some.ensures.cases.0) c.requires.v c.neg-c.result c.neg-c.ensures)

pub returns : goal.returns
returns g c =
    let P = presented g.F.Field.ops g.O.Order.order c.args.p.now in
    lead_taken P c.requires.presentation.presentation c.args.term.now c.args.work.now.terms c.requires.work c.args.v.now c.in-Some._lead.now c.in-Some.tail.now (sym c.terms.ensures ∙ c.in-Some.ensures.cases.0) c.requires.v c.neg-c.result c.neg-c.ensures
    c.add_scaled.new.self.terms c.in_ok-add_scaled.ensures.canonical (rw c.one-one.ensures at c.in_ok-add_scaled.ensures.sum)
