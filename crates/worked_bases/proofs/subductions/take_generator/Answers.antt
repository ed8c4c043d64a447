use Rattle.std.proofs.Common.{◌≡◌, ◌≤◌, sym, ap, ◌∙◌, arith}
use Rattle.std.proofs.lemmas.Bool.Decides.{nat_tests}
use Rattle.toric_ideal.specs.Listing.{Listing}
use Rattle.worked_bases.proofs.subductions.take_generator.Goals as goal

pub add_rest-requires-clause-degree : goal.add_rest-requires-clause-degree
add_rest-requires-clause-degree c =
    let same : c.degree-d.result ≡ c.degree.result = let f = c.if-d-degree.false in omega arith in
    sym c.degree-d.ensures ∙ (same ∙ (c.degree.ensures ∙ ap (λ (w : Listing). w.degree) c.words.ensures))

pub add_rest-requires-clause-low : goal.add_rest-requires-clause-low
add_rest-requires-clause-low c =
    let same : c.degree-d.result ≡ c.degree.result = let f = c.if-d-degree.false in omega arith in
    let w = ap (λ (w : Listing). w.degree) c.words.ensures in
    let k = c.degree.ensures in
    let low : c.degree-d.result ≤ 30000 = let f = c.in_ok-ensure.ensures in grind (arith, nat_tests) in
    omega arith
