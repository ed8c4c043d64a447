use Rattle.std.proofs.Common.{◌≡◌, ℕ, ◌+◌, ◌≤◌, ◌<◌, sym, subst, length}
use Rattle.std.proofs.lemmas.Result.{on_ok_weaker}
use Rattle.word_laws.specs.Words.{word_order_of}
use Rattle.word_rewriting.specs.laws.Rewriting.{more_rewrites}
use Rattle.word_rules.specs.Rules.{rule_at}
use Rattle.toric_ideal.specs.Alphabet.{letters_of}
use Rattle.toric_ideal.specs.Queue.{IsQueued}
use Rattle.toric_ideal.specs.Step.{IsCleaned, KeepsFirst, ZerosVanish}
use Rattle.toric_ideal.proofs.LetterLemmas.{alphabet_letters}
use Rattle.toric_ideal.proofs.JoiningPairs.{keeps_first_trans, same_queued}
use Rattle.toric_ideal.proofs.Grown.{first_normal, grown_fresh, grown_is, growing_generates, growing_small}
use Rattle.toric_ideal.proofs.degree_step.grow.Goals as goal

pub join_pairs-requires-clause-queued : goal.join_pairs-requires-clause-queued
join_pairs-requires-clause-queued c =
    same_queued (word_order_of (letters_of c.args.alphabet.now)) c.len-first.result c.args.table.now c.push_zeros.new.table c.push_zeros.ensures.first c.args.c c.args.pairs.now
    (subst (λ n. IsQueued (word_order_of (letters_of c.args.alphabet.now)) c.args.c n c.args.table.now c.args.pairs.now) (sym c.len-first.ensures) c.requires.queued)

pub rewrite_right_sides-requires-clause-rules : goal.rewrite_right_sides-requires-clause-rules
rewrite_right_sides-requires-clause-rules c =
    growing_small (letters_of c.args.alphabet.now) (alphabet_letters c.args.alphabet.now c.requires.alphabet) c.args.zeros.now c.requires.zeros c.args.c c.len-first.result c.join_pairs.new.table c.in_ok-join_pairs.ensures.growing c.requires.small

pub rewrite_right_sides-requires-clause-normal : goal.rewrite_right_sides-requires-clause-normal
rewrite_right_sides-requires-clause-normal c =
    first_normal (letters_of c.args.alphabet.now) (alphabet_letters c.args.alphabet.now c.requires.alphabet) c.args.zeros.now c.requires.zeros c.args.c c.len-first.result c.join_pairs.new.table c.in_ok-join_pairs.ensures.growing

pub returns-clause-grown : goal.returns-clause-grown
returns-clause-grown c =
    let L = letters_of c.args.alphabet.now in
    let H = alphabet_letters c.args.alphabet.now c.requires.alphabet in
    let Z = c.args.zeros.now in
    let first = c.len-first.result in
    let S = c.join_pairs.new.table in
    let T = c.rewrite_right_sides.new.table in
    let g = c.in_ok-join_pairs.ensures.growing in
    let vanish : ZerosVanish L (c.args.c + 1) S Z = λ z h d. more_rewrites c.push_zeros.new.table S c.join_pairs.ensures.rules (c.in_ok-push_zeros.ensures.vanish z h d) in
    let generates = growing_generates L H Z c.requires.zeros c.args.c first S g c.requires.leads vanish c.in_ok-join_pairs.ensures.joined in
    let keeps : KeepsFirst first c.args.table.now T =
    keeps_first_trans first c.args.table.now S T (keeps_first_trans first c.args.table.now c.push_zeros.new.table S c.push_zeros.ensures.first c.join_pairs.ensures.first) c.rewrite_right_sides.ensures.first in
    on_ok_weaker c.rewrite_right_sides.result
    (λ (k : IsCleaned L Z S T (length S)). record {
      exact = grown_is L H Z c.requires.zeros c.args.c first S g generates T k;
      keeps = subst (λ n. KeepsFirst n c.args.table.now T) c.len-first.ensures keeps;
      fresh = subst (λ n. (k : ℕ) → n ≤ k → k < length T → (word_order_of L).degree (rule_at T k).left ≡ c.args.c + 1) c.len-first.ensures (grown_fresh L H Z c.requires.zeros c.args.c first S g T k);
    })
    c.rewrite_right_sides.ensures.cleaned

pub returns-clause-queued : goal.returns-clause-queued
returns-clause-queued c =
    let L = letters_of c.args.alphabet.now in
    on_ok_weaker c.rewrite_right_sides.result
    (λ _. subst (λ n. IsQueued (word_order_of L) (c.args.c + 1) n c.rewrite_right_sides.new.table c.join_pairs.new.pairs) c.len-first.ensures
    (same_queued (word_order_of L) c.len-first.result c.join_pairs.new.table c.rewrite_right_sides.new.table c.rewrite_right_sides.ensures.first (c.args.c + 1) c.join_pairs.new.pairs c.in_ok-join_pairs.ensures.queued))
    c.rewrite_right_sides.ensures.cleaned
