use Rattle.monomial_order.specs.laws.Cofactors.{Divides-antisymm, Divides-product, divides_or_not, cofactor}
use Rattle.monomial_order.proofs.laws.division_laws.Goals as goal

pub returns-clause-antisymmetric : goal.returns-clause-antisymmetric
returns-clause-antisymmetric c = Divides-antisymm

pub returns-clause-decided : goal.returns-clause-decided
returns-clause-decided c = divides_or_not

pub returns-clause-factor : goal.returns-clause-factor
returns-clause-factor c = Divides-product

pub returns-clause-cofactor : goal.returns-clause-cofactor
returns-clause-cofactor c = cofactor
