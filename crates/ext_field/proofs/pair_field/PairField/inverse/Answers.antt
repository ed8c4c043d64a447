use Rattle.std.proofs.Common.{◌*◌, ◌%◌, ◌∙◌, ap}
use Rattle.ext_field.specs.laws.Primes.{fifth_power_inverts}
use Rattle.ext_field.proofs.pair_field.PairField.inverse.Goals as goal

-- the remainders of the square and of the fourth power lead to that of the fifth
pub returns-clause-inverts : goal.returns-clause-inverts
returns-clause-inverts c =
    let f = c.args.self.now in
    let n = c.args.n in
    let fourth = c.remainder.ensures ∙ ap (λ x. x * x % f.prime) c.remainder-square.ensures in
    λ some. ap (λ x. n * x % f.prime) (c.remainder-2.ensures ∙ ap (λ x. x * n % f.prime) fourth) ∙
    fifth_power_inverts f.prime f.square.low f.square.high n f.chosen c.requires.below some
