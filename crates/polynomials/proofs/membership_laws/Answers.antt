use Rattle.polynomials.specs.laws.Membership.{sub_plus, sub_times}
use Rattle.polynomials.specs.laws.Components.{sub_component}
use Rattle.polynomials.proofs.membership_laws.Goals as goal

pub returns-clause-sums : goal.returns-clause-sums
returns-clause-sums g c P a b H h k = sub_plus P H a b h k

pub returns-clause-products : goal.returns-clause-products
returns-clause-products g c P a b H ha h k = sub_times P H a b ha h k

pub returns-clause-parts : goal.returns-clause-parts
returns-clause-parts g c P d a H h = sub_component P H d a h
