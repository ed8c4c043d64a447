use Rattle.std.proofs.Common.{◌≡◌, ◌-◌, ap, arith}
use Rattle.monomial_order.specs.Monomial.{exponent}
use Rattle.monomial_order.specs.laws.Monomial.{last_place}
use Rattle.word_values.proofs.values.Values.split.Goals as goal

pub take_off-requires-clause-letter : goal.take_off-requires-clause-letter
take_off-requires-clause-letter g c z =
    let r = last_place c.args.w.now c.places-last.ensures.trimmed c.requires.some in
    let at : c.places-last.result - 1 ≡ r.0 = let a = c.places-last.ensures.length in let b = r.1 in omega arith in
    let e : exponent c.args.w.now (c.places-last.result - 1) ≡ exponent c.args.w.now r.0 = ap (exponent c.args.w.now) at in
    let n = r.2 in
    omega arith
