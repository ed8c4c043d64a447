use Rattle.std.proofs.Common.{length, ap, sym, subst, arith}
use Rattle.poly_core.specs.Presentation.{presented}
use Rattle.witness.specs.Tracking.{values_of}
use Rattle.completion.specs.Candidates.{AreWordsAt}
use Rattle.completion.proofs.WordsAtDegree.{words_of_rules}
use Rattle.completion.proofs.candidates.words_at.Goals as goal

pub split_at-requires : goal.split_at-requires
split_at-requires g c =
    let e = ap length c.rules.ensures.same in let w = c.last_rules-start.ensures.within in omega arith

pub returns-clause-words : goal.returns-clause-words
returns-clause-words g c =
    let P = presented g.F.Field.ops g.O.Order.order c.args._p.now in
    let b = c.args.basis.now in
    subst (AreWordsAt P (values_of b.elements) b.words.degree) (sym c.in_ok-found.ensures.words)
    (rw c.split_at.ensures.back (words_of_rules P c.requires.presentation.presentation b c.requires.basis
    c.decisions.ensures.zero_words c.words-words.result.now c.words-words.ensures c.rules.result.now
    c.rules.ensures.same
    c.count_x-count.result c.count_x-count.ensures c.last_rules-start.result c.last_rules-start.ensures.before
    c.last_rules-start.ensures.from))
