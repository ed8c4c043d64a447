use Rattle.std.proofs.Common.{◌≢◌, ◌≤◌, ◌<◌, ℕ, List, Some, length, subst, sym}
use Rattle.monomial_order.specs.MonomialOrder.{IsIncreasing}
use Rattle.word_laws.specs.Words.{word_order_of}
use Rattle.monomial_order.specs.Orders.{word_order}
use Rattle.word_rules.specs.Rules.{rule_at, IsSmallWord}
use Rattle.toric_ideal.specs.declared.rule.Rule.{Rule}
use Rattle.toric_ideal.specs.Alphabet.{letters_of}
use Rattle.toric_ideal.specs.Increasing.{IsInsertionIndex}
use Rattle.toric_ideal.specs.Renaming.{AreRenamings}
use Rattle.toric_ideal.specs.Rewriting.{rewrite_rules}
use Rattle.toric_ideal.specs.SortedRules.{words_of}
use Rattle.toric_ideal.proofs.LetterLemmas.{alphabet_order}
use Rattle.toric_ideal.proofs.PushedLead.{least_small, lower_in_list, lower_in_table}
use Rattle.toric_ideal.proofs.SoundPushed.{change_made}
use Rattle.toric_ideal.proofs.completion.Completion.change_to.Goals as goal

pub table_renamings-requires-clause-lower : goal.table_renamings-requires-clause-lower
table_renamings-requires-clause-lower c = lower_in_table c.args.self.now c.requires.sound c.args.m.now c.requires.lead c.args.word.now c.requires.least

pub first_of_degree-first-requires-clause-increasing : goal.first_of_degree-first-requires-clause-increasing
first_of_degree-first-requires-clause-increasing c =
    let w = c.args.self.now in
    subst (λ O. IsIncreasing O (words_of c.as_slice.result.now)) (sym (alphabet_order w.alphabet c.requires.sound.alphabet))
    (subst (λ (rs : List Rule). IsIncreasing (word_order_of (letters_of w.alphabet)) (words_of rs)) (sym c.as_slice.ensures.value) c.requires.sound.listing.rules.increasing)

pub list_renamings-requires-clause-lower : goal.list_renamings-requires-clause-lower
list_renamings-requires-clause-lower c =
    let w = c.args.self.now in
    let s = c.requires.sound in
    let n = c.first_of_degree-first.result in
    let a : (k : ℕ) → k < n → (word_order_of (letters_of w.alphabet)).degree (rule_at (rewrite_rules w.rules.items) k).left < w.degree =
    subst (λ O. (k : ℕ) → k < n → O.degree (rule_at (rewrite_rules w.rules.items) k).left < w.degree) (alphabet_order w.alphabet s.alphabet)
    (subst (λ (rs : List Rule). (k : ℕ) → k < n → (word_order w.alphabet.order.x_degrees.items w.alphabet.order.s_degrees.items).degree (rule_at (rewrite_rules rs) k).left < w.degree)
    c.as_slice.ensures.value c.first_of_degree-first.ensures.lower) in
    let b : n ≤ length w.rules.items = subst (λ (rs : List Rule). n ≤ length rs) c.as_slice.ensures.value c.first_of_degree-first.ensures.within in
    subst (λ (rs : List Rule). (k : ℕ) → k < n → (rule_at (rewrite_rules rs) k).right ≢ Some c.args.word.now) (sym c.as_slice-2.ensures.value)
    (lower_in_list w s c.args.m.now c.requires.lead c.args.word.now c.requires.least n b a)

pub insertion_index-index-requires-clause-increasing : goal.insertion_index-index-requires-clause-increasing
insertion_index-index-requires-clause-increasing c =
    let w = c.args.self.now in
    subst (λ O. IsIncreasing O (words_of c.as_slice-3.result.now)) (sym (alphabet_order w.alphabet c.requires.sound.alphabet))
    (subst (λ (rs : List Rule). IsIncreasing (word_order_of (letters_of w.alphabet)) (words_of rs)) (sym c.as_slice-3.ensures.value) c.requires.sound.listing.rules.increasing)

pub insertion_index-index-requires-clause-word : goal.insertion_index-index-requires-clause-word
insertion_index-index-requires-clause-word c =
    let w = c.args.self.now in
    subst (λ O. IsSmallWord O c.args.word.now) (sym (alphabet_order w.alphabet c.requires.sound.alphabet)) (least_small w c.requires.sound c.args.m.now c.requires.lead c.args.word.now c.requires.least)

pub returns : goal.returns
returns c =
    let w = c.args.self.now in
    let u = c.args.word.now in
    let i = c.insertion_index-index.result in
    let list = c.in_ok-in_list.in_list.items in
    let place : IsInsertionIndex (word_order_of (letters_of w.alphabet)) (words_of w.rules.items) u i =
    subst (λ O. IsInsertionIndex O (words_of w.rules.items) u i) (alphabet_order w.alphabet c.requires.sound.alphabet)
    (subst (λ (rs : List Rule). IsInsertionIndex (word_order w.alphabet.order.x_degrees.items w.alphabet.order.s_degrees.items) (words_of rs) u i) c.as_slice-3.ensures.value c.insertion_index-index.ensures) in
    let in_list : AreRenamings u c.args.letter.now (rewrite_rules w.rules.items) (length w.rules.items) list =
    subst (λ (rs : List Rule). AreRenamings u c.args.letter.now (rewrite_rules rs) (length rs) list) c.as_slice-2.ensures.value c.in_ok-in_list.ensures in
    change_made w c.args.m.now u c.requires.least c.args.letter.now c.requires.letter c.in_ok-rule.rule c.in_ok-rule.ensures i place c.in_ok-in_table.in_table c.in_ok-in_table.ensures c.in_ok-in_list.in_list in_list
