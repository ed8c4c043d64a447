use Rattle.std.proofs.Common.{◌≤◌, ℕ, take}
use Rattle.poly_core.specs.Presentation.{presented}
use Rattle.witness.specs.Tracking.{values_of}
use Rattle.word_values.specs.Values.{AreValues, AreWordsTo}
use Rattle.completion.specs.Closing.{AreSides}
use Rattle.completion.proofs.closing.made_sides.Given as goal

abbrev pub invariant-words : goal.invariant-words
invariant-words g l =
    let P = presented g.F.Field.ops g.O.Order.order l.p in
    let S = values_of l.basis.elements in
    record {
      values : AreValues P S l.values;
      kept : (d : ℕ) → l.basis.words.degree ≤ d → AreWordsTo P S d l.fn.values → AreWordsTo P S d l.values;
      sides : AreSides P S (take l.f-index l.found) l.sides.items;
    }
