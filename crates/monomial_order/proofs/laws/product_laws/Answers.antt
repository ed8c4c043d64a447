use Rattle.monomial_order.specs.laws.Monomial.{product_comm, product_assoc, product-one, IsTrimmed-product}
use Rattle.monomial_order.specs.laws.Cofactors.{product_cancel}
use Rattle.monomial_order.proofs.laws.product_laws.Goals as goal

pub returns-clause-commutative : goal.returns-clause-commutative
returns-clause-commutative c = product_comm

pub returns-clause-associative : goal.returns-clause-associative
returns-clause-associative c = product_assoc

pub returns-clause-unit : goal.returns-clause-unit
returns-clause-unit c = product-one

pub returns-clause-trimmed : goal.returns-clause-trimmed
returns-clause-trimmed c = IsTrimmed-product

pub returns-clause-cancels : goal.returns-clause-cancels
returns-clause-cancels c = product_cancel
