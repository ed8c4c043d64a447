use Rattle.std.proofs.Common.{sym}
use Rattle.word_laws.specs.Words.{word_order_of}
use Rattle.toric_ideal.specs.Alphabet.{letters_of}
use Rattle.toric_ideal.proofs.LetterLemmas.{alphabet_letters}
use Rattle.toric_ideal.proofs.QueuedPairs.{is_queued, lcm_small}
use Rattle.toric_ideal.proofs.queueing.queue_pair.Goals as goal

pub lcm_degree-degree-requires-clause-small : goal.lcm_degree-degree-requires-clause-small
lcm_degree-degree-requires-clause-small c =
    let a = c.args.alphabet.now in
    (lcm_small (letters_of a) (alphabet_letters a c.requires.alphabet) c.args.table.now c.requires.rules c.args.i c.args.j c.requires.first c.requires.second).small

pub returns-in-Ok : goal.returns-in-Ok
returns-in-Ok c =
    let a = c.args.alphabet.now in
    is_queued (word_order_of (letters_of a)) c.args.c c.args.table.now c.args.i c.args.j c.lcm_degree-degree.result c.args.pairs.now c.push.new.self
    (sym c.lcm_degree-degree.ensures) c.in-Ok.ensures.last c.push.ensures.others
