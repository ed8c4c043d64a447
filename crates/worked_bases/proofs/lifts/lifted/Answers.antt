use Rattle.std.proofs.Common.{sym, subst}
use Rattle.subduction.specs.laws.Elements.{homogeneous_elements}
use Rattle.witness.specs.Tracking.{values_of}
use Rattle.word_values.specs.Values.{AreHomogeneousElements}
use Rattle.worked_bases.specs.Rings.{of_ring}
use Rattle.worked_bases.proofs.lifts.lifted.Goals as goal

pub word_of-requires-clause-elements : goal.word_of-requires-clause-elements
word_of-requires-clause-elements c =
    subst (λ ts. AreHomogeneousElements (of_ring c.args.p.now) (values_of ts)) (sym c.elements.ensures)
    (homogeneous_elements (of_ring c.args.p.now) c.requires.valid.presentation c.args.b.now c.requires.basis.basis)
