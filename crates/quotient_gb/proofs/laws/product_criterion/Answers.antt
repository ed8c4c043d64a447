use Rattle.quotient_gb.proofs.Criterion.{reducer}
use Rattle.quotient_gb.proofs.Pairs.{below_coprime}
use Rattle.quotient_gb.proofs.laws.product_criterion.Goals as goal

pub returns : goal.returns
returns g c = λ P H G members x y hx hy co. below_coprime P.field H.field P.order H.order G (reducer P H G members) x y hx hy co
