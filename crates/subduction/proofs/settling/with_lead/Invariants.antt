use Rattle.std.proofs.Common.{take}
use Rattle.std.specs.Prelude.{map, Contains}
use Rattle.polynomials.specs.Polynomial.{lead_monomial}
use Rattle.witness.specs.Tracking.{values_of}
use Rattle.subduction.proofs.settling.with_lead.Given as goal

abbrev pub invariant-elements : goal.invariant-elements
invariant-elements g l = ¬ Contains (take l.t-index (map lead_monomial (values_of l.elements))) l.m
