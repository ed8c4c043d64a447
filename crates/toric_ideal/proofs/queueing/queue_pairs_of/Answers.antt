use Rattle.std.proofs.Common.{◌≡◌, ◌<◌, ℕ, List, get_or, length, subst, sym, arith}
use Rattle.std.specs.Prelude.{Contains}
use Rattle.std.proofs.lemmas.List.{get_or_default}
use Rattle.monomial_order.specs.laws.Lists.{contains_at}
use Rattle.word_rewriting.specs.Rewriting.{RewriteRule}
use Rattle.word_rules.specs.Rules.{AreSharing}
use Rattle.word_laws.specs.Words.{word_order_of}
use Rattle.toric_ideal.specs.Alphabet.{letters_of}
use Rattle.toric_ideal.proofs.QueuedPairs.{queueing_end, queueing_next, queueing_start}
use Rattle.toric_ideal.proofs.queueing.queue_pairs_of.Goals as goal

pub sharing-init : goal.sharing-init
sharing-init c = queueing_start (word_order_of (letters_of c.args.alphabet.now)) c.args.c c.args.table.now c.args.j c.args.pairs.now c.requires.queued

below : (R : List RewriteRule) (j : ℕ) (list items : List ℕ) (k : ℕ) → items ≡ list → k < length items → AreSharing R j list → get_or items k 0 < j
below R j list items k e l s = s.below (get_or items k 0) (subst (λ xs. Contains xs (get_or items k 0)) e (contains_at items k 0 l))

pub queue_pair-requires-clause-first : goal.queue_pair-requires-clause-first
queue_pair-requires-clause-first c =
    let b = below c.args.table.now c.args.j c.list_sharing.new.marks c.indexes-i-items.result.now c.sharing.i-index c.indexes-i-items.ensures c.sharing-test.true c.in_ok-list_sharing.ensures in
    let i = c.requires.inside in omega arith

pub sharing-preserved : goal.sharing-preserved
sharing-preserved c =
    let items = c.indexes-i-items.result.now in
    queueing_next (word_order_of (letters_of c.args.alphabet.now)) c.args.c c.args.table.now c.args.j c.sharing.i-index (get_or items c.sharing.i-index 0) items c.sharing.pairs c.queue_pair.new.pairs c.sharing-test.true
    (sym (get_or_default items c.sharing.i-index (get_or items c.sharing.i-index 0) 0 c.sharing-test.true))
    (below c.args.table.now c.args.j c.list_sharing.new.marks items c.sharing.i-index c.indexes-i-items.ensures c.sharing-test.true c.in_ok-list_sharing.ensures)
    c.in_ok-queue_pair.ensures c.sharing.invariant

pub returns : goal.returns
returns c =
    let items = c.indexes-i-items.result.now in
    queueing_end (word_order_of (letters_of c.args.alphabet.now)) c.args.c c.args.table.now c.args.j c.sharing.i-index items c.sharing.pairs c.requires.inside
    (subst (AreSharing c.args.table.now c.args.j) (sym c.indexes-i-items.ensures) c.in_ok-list_sharing.ensures) (omega (arith, c.sharing-test.false)) c.sharing.invariant
