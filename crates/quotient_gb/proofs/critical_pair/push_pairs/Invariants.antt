use Rattle.std.proofs.Common.{ℕ, ◌<◌, ◌⊎◌}
use Rattle.std.specs.Prelude.{Contains}
use Rattle.quotient_gb.specs.declared.critical_pair.CriticalPair.{CriticalPair}
use Rattle.quotient_gb.specs.CriticalPairs.{IsCriticalPair, IsCoprimeOrListed}
use Rattle.quotient_gb.specs.DegreeStep.{IsPart}
use Rattle.quotient_gb.proofs.critical_pair.push_pairs.Given as goal

-- the critical pairs with the leads so far are listed
abbrev pub invariant-firsts : goal.invariant-firsts
invariant-firsts g l = record {
  part : IsPart l.initial.pairs.items l.pairs.items;
  each : (w : CriticalPair) → Contains l.pairs.items w → Contains l.initial.pairs.items w ⊎ IsCriticalPair (g.O.Order.order l.o) l.leads w;
  listed : (i : ℕ) → i < l.first → IsCoprimeOrListed (g.O.Order.order l.o) l.leads l.pairs.items i l.second;
}
