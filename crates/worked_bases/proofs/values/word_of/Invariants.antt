use Rattle.witness.specs.Tracking.{values_of}
use Rattle.worked_bases.specs.Rings.{of_ring}
use Rattle.worked_bases.specs.WordsTo.{IsWordTo}
use Rattle.worked_bases.proofs.values.word_of.Given as goal

abbrev pub invariant-letters : goal.invariant-letters
invariant-letters l = IsWordTo (of_ring l.p) (values_of l.elements) l.w.bound l.w.word
