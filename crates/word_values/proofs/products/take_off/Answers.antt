use Rattle.poly_core.specs.Presentation.{presented}
use Rattle.witness.specs.Tracking.{values_of}
use Rattle.word_values.specs.laws.Letters.{rest_word, letter_range}
use Rattle.word_values.proofs.products.take_off.Goals as goal

pub returns : goal.returns
returns g c =
    let P = presented g.F.Field.ops g.O.Order.order c.args._p.now in
    let S = values_of c.args._elements.now in
    let r = letter_range P S c.args.w.now c.args.letter c.requires.word c.requires.letter in
    record {
      word = rest_word P S c.args.letter c.in_ok-rest.rest c.args.w.now c.in_ok-rest.ensures.trimmed c.in_ok-rest.ensures.product c.requires.word;
      first = r.0;
      last = r.1;
      whole_is = c.in_ok-rest.ensures.product;
    }
