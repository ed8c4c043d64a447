use Rattle.monomial_order.specs.laws.Monomial.{IsTrimmed-least_common_multiple}
use Rattle.monomial_order.specs.laws.Cofactors.{Divides-least_common_multiple, Divides-least_common_multiple_right, least_common_multiple_least}
use Rattle.monomial_order.proofs.laws.least_common_multiple_laws.Goals as goal

pub returns-clause-left : goal.returns-clause-left
returns-clause-left c = Divides-least_common_multiple

pub returns-clause-right : goal.returns-clause-right
returns-clause-right c = Divides-least_common_multiple_right

pub returns-clause-least : goal.returns-clause-least
returns-clause-least c = least_common_multiple_least

pub returns-clause-trimmed : goal.returns-clause-trimmed
returns-clause-trimmed c = IsTrimmed-least_common_multiple
