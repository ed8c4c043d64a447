use Rattle.std.proofs.Common.{◌≤◌, ap, arith}
use Rattle.std.proofs.lemmas.Bool.Decides.{nat_tests}
use Rattle.toric_ideal.specs.Listing.{Listing}
use Rattle.word_laws.specs.Words.{word_order_of}
use Rattle.worked_bases.proofs.NewElements.{polynomial_can}
use Rattle.worked_bases.proofs.subductions.subduced.Goals as goal

pub subduce-requires-clause-can : goal.subduce-requires-clause-can
subduce-requires-clause-can c =
    let e = c.degree-d.ensures in
    let w = ap (λ (w : Listing). w.degree) c.words.ensures in
    let k = c.degree.ensures in
    let reach : c.degree-d.result ≤ c.degree.result = let f = c.in_ok-ensure.ensures in grind (arith, nat_tests) in
    let low : c.degree-d.result ≤ 30000 = let f = c.in_ok-ensure-2.ensures in grind (arith, nat_tests) in
    polynomial_can c.args.p.now c.args.b.now c.in_ok-value.value c.zero-by.result c.zero-by.ensures c.in_ok-value.ensures.canonical (omega arith) (omega arith)

pub words_text-requires : goal.words_text-requires
words_text-requires c = (word_order_of c.args.b.now.words.letters, c.in_ok-s.ensures.canonical_sum)

pub text_of-requires-clause-canonical : goal.text_of-requires-clause-canonical
text_of-requires-clause-canonical c = c.in_ok-s.ensures.canonical.value
