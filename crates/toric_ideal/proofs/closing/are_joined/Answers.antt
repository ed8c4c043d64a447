use Rattle.std.proofs.Common.{◌≡◌, ◌<◌, ℕ, List, get_or, refl, length, subst, arith}
use Rattle.std.specs.Prelude.{Contains}
use Rattle.monomial_order.specs.laws.Lists.{contains_at}
use Rattle.word_laws.specs.Words.{word_order_of}
use Rattle.word_rewriting.specs.Rewriting.{RewriteRule}
use Rattle.word_rules.specs.Rules.{AreSharing}
use Rattle.toric_ideal.specs.Alphabet.{letters_of}
use Rattle.toric_ideal.proofs.ClosedRules.{these_all, these_next}
use Rattle.toric_ideal.proofs.closing.are_joined.Goals as goal

below : (R : List RewriteRule) (j : ℕ) (list items : List ℕ) (k : ℕ) → items ≡ list → k < length items → AreSharing R j list → get_or items k 0 < j
below R j list items k e l s = s.below (get_or items k 0) (subst (λ xs. Contains xs (get_or items k 0)) e (contains_at items k 0 l))

pub is_joined-requires-clause-first : goal.is_joined-requires-clause-first
is_joined-requires-clause-first c =
    let b = below c.args.table.now c.args.j c.list_sharing.new.marks c.indexes-i-items.result.now c.sharing.i-index c.indexes-i-items.ensures c.sharing-test.true c.in_ok-list_sharing.ensures in
    let i = c.requires.inside in omega arith

pub sharing-preserved : goal.sharing-preserved
sharing-preserved c =
    let items = c.indexes-i-items.result.now in
    these_next (word_order_of (letters_of c.args.alphabet.now)) c.args.c c.args.table.now c.args.j items c.sharing.i-index (get_or items c.sharing.i-index 0) c.sharing-test.true refl
    (c.in_ok-is_joined.ensures.yes c.if-not-branch.false) c.sharing.invariant

pub returns-clause-yes : goal.returns-clause-yes
returns-clause-yes c _ =
    these_all (word_order_of (letters_of c.args.alphabet.now)) c.args.c c.args.table.now c.args.j c.list_sharing.new.marks c.indexes-i-items.result.now c.sharing.i-index c.indexes-i-items.ensures c.in_ok-list_sharing.ensures
    (omega (arith, c.sharing-test.false)) c.sharing.invariant
