use Rattle.std.proofs.Common.{arith}
use Rattle.poly_core.specs.Presentation.{presented}
use Rattle.subduction.proofs.Result.{moved_is_poly, moved_is_small, subduced, words_small}
use Rattle.subduction.proofs.subduction.subduce_with.Goals as goal

pub returns-in_err-parts-clause-words : goal.returns-in_err-parts-clause-words
returns-in_err-parts-clause-words g c d l = let e = c.in_ok-normal.ensures.degree in c.take_words.ensures.words d (omega arith)

pub returns-in_err-word_sum-clause-words : goal.returns-in_err-word_sum-clause-words
returns-in_err-word_sum-clause-words g c d l = let e = c.in_ok-normal.ensures.degree in c.take_words.ensures.words d (omega arith)

pub returns-in_err-by-clause-words : goal.returns-in_err-by-clause-words
returns-in_err-by-clause-words g c d l = let e = c.in_ok-normal.ensures.degree in c.take_words.ensures.words d (omega arith)

pub returns-clause-words : goal.returns-clause-words
returns-clause-words g c d l = let e = c.in_ok-normal.ensures.degree in c.take_words.ensures.words d (omega arith)

pub sum_of_terms-requires-clause-small : goal.sum_of_terms-requires-clause-small
sum_of_terms-requires-clause-small g c =
    let P = presented g.F.Field.ops g.O.Order.order c.args.p.now in
    let H = c.requires.presentation.presentation in
    rw (c.as_slice.ensures.value, c.order.ensures.x, c.order.ensures.s, c.words.ensures, c.requires.basis.letters)
    (words_small P H c.args.b.now c.requires.basis c.args.t.now c.requires.can c.in_ok-normal.normal c.in_ok-normal.ensures.normal c.in_ok-parts.parts.words.items c.in_ok-parts.parts.rest.items c.in_ok-parts.ensures.parts c.in_ok-normal.ensures.canonical c.in_ok-normal.ensures.degree)

pub without_words-requires-clause-canonical : goal.without_words-requires-clause-canonical
without_words-requires-clause-canonical g c = rw c.by_order.ensures c.requires.can.canonical.by

pub without_words-requires-clause-words : goal.without_words-requires-clause-words
without_words-requires-clause-words g c =
    let P = presented g.F.Field.ops g.O.Order.order c.args.p.now in
    let H = c.requires.presentation.presentation in
    rw c.by_order.ensures
    (moved_is_poly P H c.args.b.now c.requires.basis c.args.t.now c.requires.can c.in_ok-normal.normal c.in_ok-normal.ensures.normal c.in_ok-parts.parts.words.items c.in_ok-parts.parts.rest.items c.in_ok-parts.ensures.parts
    c.in_ok-word_sum.word_sum (rw (c.order.ensures.x, c.order.ensures.s, c.words.ensures, c.requires.basis.letters) at c.in_ok-word_sum.ensures.canonical) (rw c.as_slice.ensures.value at c.in_ok-word_sum.ensures.sum))

pub without_words-requires-clause-small : goal.without_words-requires-clause-small
without_words-requires-clause-small g c =
    let P = presented g.F.Field.ops g.O.Order.order c.args.p.now in
    let H = c.requires.presentation.presentation in
    rw c.by_order.ensures
    (moved_is_small P H c.args.b.now c.requires.basis c.args.t.now c.requires.can c.in_ok-normal.normal c.in_ok-normal.ensures.normal c.in_ok-parts.parts.words.items c.in_ok-parts.parts.rest.items c.in_ok-parts.ensures.parts
    c.in_ok-word_sum.word_sum (rw (c.order.ensures.x, c.order.ensures.s, c.words.ensures, c.requires.basis.letters) at c.in_ok-word_sum.ensures.canonical) (rw c.as_slice.ensures.value at c.in_ok-word_sum.ensures.sum))

pub returns-clause-subduced : goal.returns-clause-subduced
returns-clause-subduced g c =
    let P = presented g.F.Field.ops g.O.Order.order c.args.p.now in
    let H = c.requires.presentation.presentation in
    rw c.from_falling-value.ensures
    (subduced P H c.args.b.now c.requires.basis c.args.t.now c.requires.can c.in_ok-normal.normal c.in_ok-normal.ensures.normal c.in_ok-parts.parts.words.items c.in_ok-parts.parts.rest.items c.in_ok-parts.ensures.parts
    c.in_ok-word_sum.word_sum (rw (c.order.ensures.x, c.order.ensures.s, c.words.ensures, c.requires.basis.letters) at c.in_ok-word_sum.ensures.canonical) (rw c.as_slice.ensures.value at c.in_ok-word_sum.ensures.sum)
    c.in_ok-by.by (rw c.by_order.ensures at c.in_ok-by.ensures.canonical) c.in_ok-by.ensures.difference)
