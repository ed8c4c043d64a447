use Rattle.std.proofs.Common.{◌≡◌, ◌+◌, sym, subst, arith}
use Rattle.word_laws.specs.Words.{word_order_of}
use Rattle.toric_ideal.specs.Alphabet.{letters_of}
use Rattle.toric_ideal.specs.Queue.{IsQueued}
use Rattle.toric_ideal.proofs.Grown.{exact_small, extension_next, extension_start}
use Rattle.toric_ideal.proofs.growing.grow_to.Goals as goal

pub degrees-init : goal.degrees-init
degrees-init c = (omega arith, c.requires.above, extension_start (letters_of c.args.alphabet.now) c.args.zeros.now c.args.from c.args.table.now c.requires.exact, c.requires.queued)

pub queue_pairs-requires-clause-rules : goal.queue_pairs-requires-clause-rules
queue_pairs-requires-clause-rules c =
    let a = c.degrees.invariant.1 in let s = c.requires.small in
    exact_small (letters_of c.args.alphabet.now) c.args.zeros.now c.degrees.degree c.degrees.table (omega arith) c.degrees.invariant.2.exact

pub grow-requires-clause-leads : goal.grow-requires-clause-leads
grow-requires-clause-leads c m h = let a = c.requires.leads m h in let b = c.degrees.invariant.0 in omega arith

pub degrees-preserved : goal.degrees-preserved
degrees-preserved c =
    let a = c.degrees.invariant.0 in
    let t = c.degrees-test.true in (
      omega arith,
      omega arith,
      extension_next (letters_of c.args.alphabet.now) c.args.zeros.now c.args.from c.degrees.degree c.args.table.now c.degrees.table c.grow.new.table a c.degrees.invariant.2 c.in_ok-grow.ensures.grown,
      subst (λ n. IsQueued (word_order_of (letters_of c.args.alphabet.now)) (c.degrees.degree + 1) n c.grow.new.table c.grow.new.pairs) (sym c.len-queued_count.ensures) c.in_ok-grow.ensures.queued,
    )

pub returns-clause-queued : goal.returns-clause-queued
returns-clause-queued c =
    let b = c.degrees.invariant.1 in
    subst (λ d. IsQueued (word_order_of (letters_of c.args.alphabet.now)) d c.degrees.queued_count c.degrees.table c.degrees.pairs)
    (let e : c.degrees.degree ≡ c.args.to = omega (arith, c.degrees-test.false) in e) c.degrees.invariant.3
