use Rattle.std.proofs.Common.{sym, subst}
use Rattle.witness.specs.Tracking.{values_of}
use Rattle.word_values.specs.Values.{AreHomogeneousElements}
use Rattle.worked_bases.specs.Rings.{of_ring}
use Rattle.worked_bases.proofs.values.answer.Goals as goal

pub values_of_words-requires-clause-elements : goal.values_of_words-requires-clause-elements
values_of_words-requires-clause-elements c =
    subst (λ ts. AreHomogeneousElements (of_ring c.in_ok-p.p) (values_of ts)) (sym c.as_slice.ensures.value) c.in_ok-elements.ensures
