use Rattle.monomial_order.specs.laws.Cofactors.{same_exponents}
use Rattle.worked_words.proofs.rules.exact.Goals as goal

pub returns : goal.returns
returns c = same_exponents c.in_ok-from_places.field-0 c.args.exponents.now c.in_ok-from_places.ensures.trimmed c.requires c.in_ok-from_places.ensures.exponents
