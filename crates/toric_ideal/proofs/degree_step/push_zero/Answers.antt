use Rattle.std.proofs.Common.{◌∙◌, sym, subst, arith, Some, None}
use Rattle.word_rewriting.specs.Rewriting.{Rewrites, IsNormalForm}
use Rattle.word_rules.specs.Rules.{AreDecreasing}
use Rattle.toric_ideal.specs.Alphabet.{letters_of}
use Rattle.toric_ideal.specs.Step.{IsGrowing}
use Rattle.toric_ideal.proofs.LetterLemmas.{alphabet_letters, alphabet_order, x_degree}
use Rattle.toric_ideal.proofs.DegreeRules.{growing_decreasing, zero_left, zero_grows, zero_vanishes}
use Rattle.toric_ideal.proofs.degree_step.push_zero.Goals as goal

pub degree-requires-clause-small : goal.degree-requires-clause-small
degree-requires-clause-small c =
    let e = x_degree c.args.alphabet.now c.requires.alphabet c.args.zero.now (c.requires.zeros c.args.zero.now c.requires.zero) in
    let d = c.requires.degree in omega arith

pub returns-then-degree-c-clause-vanish : goal.returns-then-degree-c-clause-vanish
returns-then-degree-c-clause-vanish c d =
    absurd (c.if-degree-c.true (c.degree.ensures ∙ (x_degree c.args.alphabet.now c.requires.alphabet c.args.zero.now (c.requires.zeros c.args.zero.now c.requires.zero) ∙ d)))

pub rewrite-requires-clause-decreasing : goal.rewrite-requires-clause-decreasing
rewrite-requires-clause-decreasing c =
    let a = c.args.alphabet.now in
    let H = alphabet_letters a c.requires.alphabet in
    subst (λ O. AreDecreasing O c.args.table.now) (sym (alphabet_order a c.requires.alphabet))
    (growing_decreasing (letters_of a) H c.args.zeros.now c.requires.zeros c.args.c c.args.first c.args.table.now c.requires.growing)

pub push-requires : goal.push-requires
push-requires c =
    let a = c.args.alphabet.now in
    let H = alphabet_letters a c.requires.alphabet in
    zero_left (letters_of a) H c.args.zeros.now c.requires.zeros c.args.c c.args.first c.args.table.now c.requires.growing c.requires.small c.args.zero.now c.requires.zero
    (sym (x_degree a c.requires.alphabet c.args.zero.now (c.requires.zeros c.args.zero.now c.requires.zero)) ∙ (sym c.degree.ensures ∙ c.if-degree-c.false))
    c.in-Some.word (subst (IsNormalForm c.args.table.now (Some c.args.zero.now)) c.in-Some.is c.in_ok-word.ensures)

pub returns-in_ok-push-clause-growing : goal.returns-in_ok-push-clause-growing
returns-in_ok-push-clause-growing c =
    let a = c.args.alphabet.now in
    let H = alphabet_letters a c.requires.alphabet in
    subst (IsGrowing (letters_of a) c.args.zeros.now c.args.c c.args.first) (sym c.in_ok-push.ensures.last)
    (zero_grows (letters_of a) H c.args.zeros.now c.requires.zeros c.args.c c.args.first c.args.table.now c.requires.growing c.requires.small c.args.zero.now c.requires.zero
    (sym (x_degree a c.requires.alphabet c.args.zero.now (c.requires.zeros c.args.zero.now c.requires.zero)) ∙ (sym c.degree.ensures ∙ c.if-degree-c.false))
    c.in-Some.word (subst (IsNormalForm c.args.table.now (Some c.args.zero.now)) c.in-Some.is c.in_ok-word.ensures))

pub returns-in_ok-push-clause-vanish : goal.returns-in_ok-push-clause-vanish
returns-in_ok-push-clause-vanish c d =
    let a = c.args.alphabet.now in
    let H = alphabet_letters a c.requires.alphabet in
    subst (λ S. Rewrites S (Some c.args.zero.now) None) (sym c.in_ok-push.ensures.last)
    (zero_vanishes (letters_of a) H c.args.zeros.now c.requires.zeros c.args.c c.args.first c.args.table.now c.requires.growing c.requires.small c.args.zero.now c.requires.zero d
    c.in-Some.word (subst (IsNormalForm c.args.table.now (Some c.args.zero.now)) c.in-Some.is c.in_ok-word.ensures))
