use Rattle.subduction.proofs.subduction.moved_sum.Goals as goal

pub sum_of_terms-requires-clause-terms : goal.sum_of_terms-requires-clause-terms
sum_of_terms-requires-clause-terms g c = rw (c.as_slice.ensures.value, c.in_ok-moved.ensures, c.places-places.ensures, c.len.ensures, c.args.p.now.generators.ok.0, c.terms.ensures) c.requires.words

pub sum_of_terms-requires-clause-small : goal.sum_of_terms-requires-clause-small
sum_of_terms-requires-clause-small g c = rw (c.as_slice.ensures.value, c.in_ok-moved.ensures, c.places-places.ensures, c.len.ensures, c.args.p.now.generators.ok.0, c.terms.ensures) c.requires.small

pub returns-clause-same : goal.returns-clause-same
returns-clause-same g c = rw (c.as_slice.ensures.value, c.in_ok-moved.ensures, c.places-places.ensures, c.len.ensures, c.args.p.now.generators.ok.0, c.terms.ensures) at c.in_ok-sum.ensures.sum
