use Rattle.std.proofs.Common.{arith}
use Rattle.std.proofs.lemmas.Bool.{false≢true}
use Rattle.std.proofs.lemmas.List.{length-take}
use Rattle.monomial_order.proofs.monomials.Monomial.from_places.Goals as goal

pub returns-in_err-exponents-clause-short : goal.returns-in_err-exponents-clause-short
returns-in_err-exponents-clause-short c =
    λ zeros. let few = c.used_places.ensures.least 32 zeros in absurd (false≢true (c.in_err-exponents.ensures.succeeds (omega (arith, length-take c.used_places.result c.args.e.now))))
