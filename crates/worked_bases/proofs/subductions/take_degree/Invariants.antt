use Rattle.worked_bases.specs.LowBases.{IsLowBasis}
use Rattle.worked_bases.proofs.subductions.take_degree.Given as goal

abbrev pub invariant-generators : goal.invariant-generators
invariant-generators l = IsLowBasis l.p l.b
