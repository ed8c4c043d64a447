use Rattle.poly_core.specs.Presentation.{presented}
use Rattle.subduction.specs.laws.Elements.{homogeneous_elements}
use Rattle.tete_lift.proofs.tracked_words.value_of_word.Goals as goal

pub prepare-requires-clause-elements : goal.prepare-requires-clause-elements
prepare-requires-clause-elements g c =
    let P = presented g.F.Field.ops g.O.Order.order c.args.p.now in
    rw c.elements.ensures (homogeneous_elements P c.requires.presentation.presentation c.args.b.now c.requires.basis)

pub prepare-requires-clause-values : goal.prepare-requires-clause-values
prepare-requires-clause-values g c = rw c.elements.ensures c.requires.values

pub returns-in_err-value-clause-values : goal.returns-in_err-value-clause-values
returns-in_err-value-clause-values g c = rw c.elements.ensures at c.prepare.ensures.values

pub returns-in_err-value-clause-words : goal.returns-in_err-value-clause-words
returns-in_err-value-clause-words g c d l k = (rw c.elements.ensures at c.prepare.ensures.degrees) d k l

pub get-requires-clause-elements : goal.get-requires-clause-elements
get-requires-clause-elements g c =
    let P = presented g.F.Field.ops g.O.Order.order c.args.p.now in
    rw c.elements-in-None.ensures
    (homogeneous_elements P c.requires.presentation.presentation c.args.b.now c.requires.basis)

pub get-requires-clause-values : goal.get-requires-clause-values
get-requires-clause-values g c = rw c.elements-in-None.ensures (rw c.elements.ensures at c.prepare.ensures.values)

pub returns-in-Some-clause-values : goal.returns-in-Some-clause-values
returns-in-Some-clause-values g c = rw c.elements.ensures at c.prepare.ensures.values

pub returns-in-Some-clause-words : goal.returns-in-Some-clause-words
returns-in-Some-clause-words g c d l k = (rw c.elements.ensures at c.prepare.ensures.degrees) d k l

pub returns-in-Some-get-clause-values : goal.returns-in-Some-get-clause-values
returns-in-Some-get-clause-values g c = rw c.elements.ensures at c.prepare.ensures.values

pub returns-in-Some-get-clause-words : goal.returns-in-Some-get-clause-words
returns-in-Some-get-clause-words g c d l k = (rw c.elements.ensures at c.prepare.ensures.degrees) d k l
