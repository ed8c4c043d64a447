use Rattle.poly_core.specs.Presentation.{presented}
use Rattle.witness.specs.Tracking.{values_of}
use Rattle.subduction.proofs.Steps.{irreducible_word, monic_value}
use Rattle.subduction.proofs.word_step.take_known_value.Goals as goal

pub cancel-requires-clause-v : goal.cancel-requires-clause-v
cancel-requires-clause-v g c =
    let P = presented g.F.Field.ops g.O.Order.order c.args.p.now in
    let S = values_of c.args._elements.now in
    monic_value P c.requires.presentation.presentation S c.requires.monic c.args._w.now c.args.term.now.at c.requires.word c.requires.least c.requires.standard (c.words.ensures.least P S)
    (c.combinations.ensures.normal_forms P S c.requires.presentation.presentation c.requires.monic) c.args.value.now c.requires.value

pub returns : goal.returns
returns g c =
    let P = presented g.F.Field.ops g.O.Order.order c.args.p.now in
    let S = values_of c.args._elements.now in
    record {
      irreducible = irreducible_word P c.requires.presentation.presentation S c.requires.monic c.args._w.now c.args.term.now.at c.requires.word c.requires.least c.requires.standard (c.words.ensures.least P S);
      value = c.args.value.now;
      word_value = c.requires.value;
      monic = monic_value P c.requires.presentation.presentation S c.requires.monic c.args._w.now c.args.term.now.at c.requires.word c.requires.least c.requires.standard (c.words.ensures.least P S)
          (c.combinations.ensures.normal_forms P S c.requires.presentation.presentation c.requires.monic) c.args.value.now c.requires.value;
      taken = c.in_ok-cancel.ensures;
    }
