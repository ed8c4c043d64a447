use Rattle.std.proofs.Common.{All}
use Rattle.worked_bases.specs.Elements.{IsGeneratorElement}
use Rattle.worked_bases.proofs.expansions.generators.Given as goal

abbrev pub invariant-generators : goal.invariant-generators
invariant-generators l = All (IsGeneratorElement l.p) l.s.items
