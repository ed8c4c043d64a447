use Rattle.std.proofs.Common.{subst}
use Rattle.witness.specs.Tracking.{values_of, IsWitnessOrder}
use Rattle.worked_bases.specs.Rings.{of_ring}
use Rattle.worked_bases.proofs.expansions.generator_basis.Goals as goal

pub returns-clause-order : goal.returns-clause-order
returns-clause-order c =
    subst (λ l. IsWitnessOrder (of_ring c.args.p.now) (values_of l) c.in_ok-order.order) c.as_slice.ensures.value c.in_ok-order.ensures
