use Rattle.std.proofs.Common.{◌≡◌, length, subst, arith}
use Rattle.word_laws.specs.Words.{word_order_of}
use Rattle.toric_ideal.specs.Alphabet.{letters_of}
use Rattle.toric_ideal.specs.Queue.{IsQueued}
use Rattle.toric_ideal.proofs.queueing.queue_pairs.Goals as goal

pub returns : goal.returns
returns c =
    let w = c.rules.invariant.within in
    subst (λ n. IsQueued (word_order_of (letters_of c.args.alphabet.now)) c.args.c n c.args.table.now c.rules.pairs)
    (let e : c.rules.j ≡ length c.args.table.now = omega (arith, c.rules-test.false, c.len-j-end.ensures) in e) c.rules.invariant
