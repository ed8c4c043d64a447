use Rattle.witness.specs.Tracking.{values_of}
use Rattle.word_values.specs.Values.{AreValues}
use Rattle.worked_bases.specs.Rings.{of_ring}
use Rattle.worked_bases.proofs.values.values_of_words.Given as goal

abbrev pub invariant-words : goal.invariant-words
invariant-words l = AreValues (of_ring l.p) (values_of l.elements) l.values
