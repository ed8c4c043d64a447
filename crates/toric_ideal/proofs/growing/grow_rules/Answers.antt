use Rattle.std.proofs.Common.{sym, subst, length, List}
use Rattle.word_laws.specs.Words.{word_order_of}
use Rattle.toric_ideal.specs.declared.rule.Rule.{Rule}
use Rattle.toric_ideal.specs.Alphabet.{letters_of}
use Rattle.toric_ideal.specs.Listing.{AreRules}
use Rattle.toric_ideal.specs.Rewriting.{AreSameRules}
use Rattle.toric_ideal.specs.SortedRules.{AreSortedRules}
use Rattle.toric_ideal.proofs.LetterLemmas.{alphabet_letters, alphabet_order}
use Rattle.toric_ideal.proofs.ExactRules.{listed_exact}
use Rattle.toric_ideal.proofs.Extended.{extended_rules, extended_same}
use Rattle.toric_ideal.proofs.growing.grow_rules.Goals as goal

pub grow_to-requires-clause-exact : goal.grow_to-requires-clause-exact
grow_to-requires-clause-exact c =
    listed_exact (letters_of c.args.alphabet.now) (alphabet_letters c.args.alphabet.now c.requires.alphabet) c.args.zeros.now c.args.from c.args.table.now c.args.rules.now.items c.requires.rules c.requires.same

pub returns-clause-rules : goal.returns-clause-rules
returns-clause-rules c =
    let a = c.args.alphabet.now in
    subst (AreRules (letters_of a) c.args.zeros.now c.args.to) (sym c.in_ok-append.ensures.items)
    (extended_rules (letters_of a) (alphabet_letters a c.requires.alphabet) c.args.zeros.now c.args.from c.args.to c.args.rules.now.items c.in_ok-new.new.items c.args.table.now c.grow_to.new.table c.requires.rules c.requires.same c.in_ok-queued_count.ensures.grown
    (subst (λ n. AreSortedRules (word_order_of (letters_of a)) c.grow_to.new.table n (length c.grow_to.new.table) c.in_ok-new.new.items) c.len-first.ensures
    (subst (λ O. AreSortedRules O c.grow_to.new.table c.len-first.result (length c.grow_to.new.table) c.in_ok-new.new.items) (alphabet_order a c.requires.alphabet) c.in_ok-new.ensures)))

pub returns-clause-same : goal.returns-clause-same
returns-clause-same c =
    let a = c.args.alphabet.now in
    subst (λ (rs : List Rule). AreSameRules rs c.grow_to.new.table) (sym c.in_ok-append.ensures.items)
    (extended_same (letters_of a) (alphabet_letters a c.requires.alphabet) c.args.zeros.now c.args.from c.args.to c.args.rules.now.items c.in_ok-new.new.items c.args.table.now c.grow_to.new.table c.requires.rules c.requires.same c.in_ok-queued_count.ensures.grown
    (subst (λ n. AreSortedRules (word_order_of (letters_of a)) c.grow_to.new.table n (length c.grow_to.new.table) c.in_ok-new.new.items) c.len-first.ensures
    (subst (λ O. AreSortedRules O c.grow_to.new.table c.len-first.result (length c.grow_to.new.table) c.in_ok-new.new.items) (alphabet_order a c.requires.alphabet) c.in_ok-new.ensures)))
