use Rattle.std.proofs.Common.{◌≤◌, inl, subst, arith}
use Rattle.word_laws.specs.Words.{word_order_of}
use Rattle.word_laws.specs.laws.Words.{degree_x, image_same}
use Rattle.monomial_order.specs.Monomial.{IsMultiple}
use Rattle.worked_words.proofs.walk.least.Goals as goal

pub least-requires-clause-degree : goal.least-requires-clause-degree
least-requires-clause-degree c =
    let e = degree_x c.args.words.now.letters c.leads-leads.ensures.listing.letters c.args.m.now c.in_ok-_degree.ensures.monomial in
    let l = c.in_ok-_degree.ensures.listed in
    let d = c.in_ok-_degree.ensures.degree in
    let low : (word_order_of c.args.words.now.letters).degree c.args.m.now ≤ c.args.words.now.degree = omega arith in
    inl low

pub returns-clause-standard : goal.returns-clause-standard
returns-clause-standard c s =
    subst (λ m. ¬ IsMultiple c.args.words.now.zeros m) (image_same c.args.words.now.letters c.leads-leads.ensures.listing.letters c.args.m.now c.in_ok-_degree.ensures.monomial) (c.in_ok-least.ensures.standard s)
