use Rattle.std.proofs.Common.{◌≤◌, take, drop}
use Rattle.std.specs.Prelude.{Contains}
use Rattle.poly_core.specs.Presentation.{presented}
use Rattle.polynomials.specs.Polynomial.{degree_of}
use Rattle.witness.specs.declared.tracked.Tracked.{Tracked}
use Rattle.subduction.specs.Cutting.{IsFront}
use Rattle.subduction.proofs.cutting.words_over.Given as goal

abbrev pub invariant-elements : goal.invariant-elements
invariant-elements g l = record {
  front : IsFront (presented g.F.Field.ops g.O.Order.order l.p) l.q l.words l.places (take l.t-index l.kept);
  low : (u : Tracked g.row.F.Denot g.row.F-Elem.Denot) → Contains (drop l.t-index l.kept) u → l.words.degree ≤ degree_of (g.O.Order.order l.p.order) u.value;
}
