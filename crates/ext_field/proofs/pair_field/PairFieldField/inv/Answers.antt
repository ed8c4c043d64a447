use Rattle.std.proofs.Common.{◌*◌, ◌%◌, sym, ◌∙◌, ap, refl, arith}
use Rattle.std.proofs.lemmas.Nat.{mul-mod_first}
use Rattle.ext_field.specs.PairField.{pairs}
use Rattle.ext_field.specs.laws.Norms.{norm, norm_is_zero}
use Rattle.ext_field.specs.laws.Pairs.{pair_eq, inverse_by, low_of_value, high_of_value}
use Rattle.ext_field.proofs.pair_field.PairFieldField.inv.Goals as goal

-- the norm is 0 only at zero
pub returns-then-norm-eq0-clause-none : goal.returns-then-norm-eq0-clause-none
returns-then-norm-eq0-clause-none c =
    let f = c.args.self.now in
    let a = c.args.a in
    let zeros = norm_is_zero f.prime f.square.low f.square.high f.chosen a.low a.high
    (low_of_value f.prime f.square.low f.square.high f.chosen a c.requires)
    (high_of_value f.prime f.square.low f.square.high f.chosen a c.requires) (sym c.remainder-norm.ensures ∙ c.if-norm-eq0.true) in
    (λ _. pair_eq zeros.0 zeros.1, λ _. refl)

-- the conjugate by the inverse of the norm
pub returns-clause-some : goal.returns-clause-some
returns-clause-some c =
    let f = c.args.self.now in
    let a = c.args.a in
    let by = c.inverse-by.result in
    let below = high_of_value f.prime f.square.low f.square.high f.chosen a c.requires in
    ap (λ x. (pairs f.prime f.square.low f.square.high).times a x) (pair_eq c.remainder.ensures c.remainder-2.ensures) ∙
    inverse_by f.prime f.square.low f.square.high f.chosen a.low a.high by (omega arith)
    (sym (mul-mod_first (norm f.prime f.square.low f.square.high a.low a.high) by f.prime) ∙
    (ap (λ n. n * by % f.prime) (sym c.remainder-norm.ensures) ∙ c.inverse-by.ensures.inverts c.if-norm-eq0.false))
