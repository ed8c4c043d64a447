use Rattle.std.proofs.Common.{length, arith}
use Rattle.toric_ideal.proofs.Skipping.{sum_skipped}
use Rattle.toric_ideal.proofs.alphabet.Alphabet.has_x.Goals as goal

pub returns-clause-s_word : goal.returns-clause-s_word
returns-clause-s_word c _ =
    (c.requires.word, sum_skipped (length c.args.self.now.order.x_degrees.items) c.loop-place.place c.args.w.now (let a = c.args.self.now.order.x_degrees.ok in omega arith) c.loop-place.invariant)
