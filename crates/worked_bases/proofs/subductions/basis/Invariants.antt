use Rattle.worked_bases.specs.LowBases.{IsLowBasis}
use Rattle.worked_bases.proofs.subductions.basis.Given as goal

abbrev pub invariant-degrees : goal.invariant-degrees
invariant-degrees l = IsLowBasis l.p l.b
