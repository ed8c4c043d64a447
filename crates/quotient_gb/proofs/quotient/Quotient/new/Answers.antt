use Rattle.std.proofs.Common.{refl}
use Rattle.poly_core.specs.Presentation.{presented}
use Rattle.quotient_gb.proofs.Knowing.{empty_quotient}
use Rattle.quotient_gb.proofs.quotient.Quotient.new.Goals as goal

pub returns-clause-quotient : goal.returns-clause-quotient
returns-clause-quotient g c = empty_quotient (presented g.F.Field.ops g.O.Order.order c.args._p.now) c.requires _ refl c.new.ensures.members c.new.ensures.leads c.new-2.ensures.items refl
