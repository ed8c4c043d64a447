use Rattle.std.proofs.Common.{ℕ, ◌≤◌}
use Rattle.poly_core.specs.Presentation.{presented}
use Rattle.polynomials.specs.Polynomial.{degree_of}
use Rattle.polynomials.specs.laws.Lowering.{height}
use Rattle.witness.specs.Tracking.{values_of}
use Rattle.word_values.specs.Values.{AreValues, AreWordsTo}
use Rattle.subduction.specs.Steps.{IsSubducing}
use Rattle.subduction.proofs.word_step.take_words.Given as goal

abbrev pub invariant-subduce : goal.invariant-subduce
invariant-subduce g l =
    IsSubducing (presented g.F.Field.ops g.O.Order.order l.p) (values_of l.b.elements) l.a l.parts.words.items l.parts.rest.items l.work.terms ×
    (AreValues (presented g.F.Field.ops g.O.Order.order l.p) (values_of l.b.elements) l.values ×
    ((d : ℕ) → degree_of (g.O.Order.order l.p.order) l.a ≤ d → AreWordsTo (presented g.F.Field.ops g.O.Order.order l.p) (values_of l.b.elements) d l.initial.values → AreWordsTo (presented g.F.Field.ops g.O.Order.order l.p) (values_of l.b.elements) d l.values))

abbrev pub decreases-subduce : goal.decreases-subduce
decreases-subduce g l = height (g.O.Order.order l.p.order) l.work.terms
