use Rattle.std.proofs.Common.{take}
use Rattle.witness.specs.Tracking.{values_of, IsWitnessOrder}
use Rattle.worked_bases.proofs.expansions.witness_order.Given as goal
use Rattle.worked_bases.specs.Rings.{of_ring}

abbrev pub invariant-elements : goal.invariant-elements
invariant-elements l = IsWitnessOrder (of_ring l.p) (values_of (take l.t-index l.s)) l.w
