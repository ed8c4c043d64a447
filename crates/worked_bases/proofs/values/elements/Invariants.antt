use Rattle.witness.specs.Tracking.{values_of}
use Rattle.word_values.specs.Values.{AreHomogeneousElements}
use Rattle.worked_bases.specs.Rings.{of_ring}
use Rattle.worked_bases.proofs.values.elements.Given as goal

abbrev pub invariant-texts : goal.invariant-texts
invariant-texts l = AreHomogeneousElements (of_ring l.p) (values_of l.elements.items)
