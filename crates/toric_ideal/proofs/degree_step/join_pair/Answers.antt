use Rattle.std.proofs.Common.{ℕ, List, ◌≡◌, refl, sym, ap, subst, Some}
use Rattle.std.specs.Prelude.{is_some, IfSome, Option}
use Rattle.word_rewriting.specs.Rewriting.{HasJoinablePair, RewriteRule, WordOrZero}
use Rattle.monomial_order.specs.Monomial.{least_common_multiple}
use Rattle.word_rules.specs.Rules.{rule_at, AreDecreasing, ArePairForms, IsSmallWord}
use Rattle.toric_ideal.specs.Alphabet.{letters_of}
use Rattle.toric_ideal.specs.Rewriting.{rewrite_rule}
use Rattle.toric_ideal.specs.Step.{IsGrowing, IsOriented}
use Rattle.toric_ideal.proofs.LetterLemmas.{alphabet_letters, alphabet_order}
use Rattle.toric_ideal.proofs.DegreeRules.{growing_decreasing, pair_small, first_small, second_small, pair_same, pair_left, pair_pushed, pair_joined}
use Rattle.toric_ideal.proofs.CommonLetters.{common_joined}
use Rattle.toric_ideal.proofs.degree_step.join_pair.Goals as goal

pub returns-then-has_common_letter-clause-joined : goal.returns-then-has_common_letter-clause-joined
returns-then-has_common_letter-clause-joined c =
    let a = c.args.alphabet.now in
    common_joined (letters_of a) (alphabet_letters a c.requires.alphabet) c.args.zeros.now c.args.c c.args.first c.args.table.now c.requires.growing c.args.i c.args.j c.requires.pair
    (λ u v pair. (c.has_common_letter.ensures u v pair).0 c.if-has_common_letter.true)

pub different_forms-requires-clause-decreasing : goal.different_forms-requires-clause-decreasing
different_forms-requires-clause-decreasing c =
    let a = c.args.alphabet.now in
    let H = alphabet_letters a c.requires.alphabet in
    subst (λ O. AreDecreasing O c.args.table.now) (sym (alphabet_order a c.requires.alphabet))
    (growing_decreasing (letters_of a) H c.args.zeros.now c.requires.zeros c.args.c c.args.first c.args.table.now c.requires.growing)

pub different_forms-requires-clause-small : goal.different_forms-requires-clause-small
different_forms-requires-clause-small c =
    let a = c.args.alphabet.now in
    let H = alphabet_letters a c.requires.alphabet in
    subst (λ O. IsSmallWord O (least_common_multiple (rule_at c.args.table.now c.args.i).left (rule_at c.args.table.now c.args.j).left)) (sym (alphabet_order a c.requires.alphabet))
    (pair_small (letters_of a) H c.args.zeros.now c.requires.zeros c.args.c c.args.first c.args.table.now c.requires.growing c.requires.small c.args.i c.args.j c.requires.pair)

-- the forms that were found
forms_of : (R : List RewriteRule) (i j : ℕ) (found : Option (WordOrZero × WordOrZero)) (u v : WordOrZero) → found ≡ Some (u, v) →
    IfSome found (λ p. ArePairForms R (rule_at R i) (rule_at R j) p.0 p.1) → ArePairForms R (rule_at R i) (rule_at R j) u v
forms_of R i j found u v e h = subst (λ o. IfSome o (λ p. ArePairForms R (rule_at R i) (rule_at R j) p.0 p.1)) e h

pub oriented-requires-clause-first : goal.oriented-requires-clause-first
oriented-requires-clause-first c =
    let a = c.args.alphabet.now in
    let H = alphabet_letters a c.requires.alphabet in
    subst (λ O. IfSome c.in-Some.u (IsSmallWord O)) (sym (alphabet_order a c.requires.alphabet))
    (first_small (letters_of a) H c.args.zeros.now c.requires.zeros c.args.c c.args.first c.args.table.now c.requires.growing c.requires.small c.args.i c.args.j c.requires.pair c.in-Some.u c.in-Some.v (forms_of c.args.table.now c.args.i c.args.j c.in_ok-u.field-0 c.in-Some.u c.in-Some.v c.in-Some.is c.in_ok-u.ensures.forms))

pub oriented-requires-clause-second : goal.oriented-requires-clause-second
oriented-requires-clause-second c =
    let a = c.args.alphabet.now in
    let H = alphabet_letters a c.requires.alphabet in
    subst (λ O. IfSome c.in-Some.v (IsSmallWord O)) (sym (alphabet_order a c.requires.alphabet))
    (second_small (letters_of a) H c.args.zeros.now c.requires.zeros c.args.c c.args.first c.args.table.now c.requires.growing c.requires.small c.args.i c.args.j c.requires.pair c.in-Some.u c.in-Some.v (forms_of c.args.table.now c.args.i c.args.j c.in_ok-u.field-0 c.in-Some.u c.in-Some.v c.in-Some.is c.in_ok-u.ensures.forms))

pub push-requires : goal.push-requires
push-requires c =
    let a = c.args.alphabet.now in
    let H = alphabet_letters a c.requires.alphabet in
    pair_left (letters_of a) H c.args.zeros.now c.requires.zeros c.args.c c.args.first c.args.table.now c.requires.growing c.requires.small c.args.i c.args.j c.requires.pair c.in-Some.u c.in-Some.v (forms_of c.args.table.now c.args.i c.args.j c.in_ok-u.field-0 c.in-Some.u c.in-Some.v c.in-Some.is c.in_ok-u.ensures.forms)
    (rewrite_rule c.in-Some-oriented.rule) (subst (λ O. IsOriented O c.in-Some.u c.in-Some.v (rewrite_rule c.in-Some-oriented.rule)) (alphabet_order a c.requires.alphabet) c.in-Some-oriented.ensures.some)

pub returns-in_ok-push-clause-growing : goal.returns-in_ok-push-clause-growing
returns-in_ok-push-clause-growing c =
    let a = c.args.alphabet.now in
    let H = alphabet_letters a c.requires.alphabet in
    subst (IsGrowing (letters_of a) c.args.zeros.now c.args.c c.args.first) (sym c.in_ok-push.ensures.last)
    (pair_pushed (letters_of a) H c.args.zeros.now c.requires.zeros c.args.c c.args.first c.args.table.now c.requires.growing c.requires.small c.args.i c.args.j c.requires.pair c.in-Some.u c.in-Some.v (forms_of c.args.table.now c.args.i c.args.j c.in_ok-u.field-0 c.in-Some.u c.in-Some.v c.in-Some.is c.in_ok-u.ensures.forms)
    (rewrite_rule c.in-Some-oriented.rule) (subst (λ O. IsOriented O c.in-Some.u c.in-Some.v (rewrite_rule c.in-Some-oriented.rule)) (alphabet_order a c.requires.alphabet) c.in-Some-oriented.ensures.some))

pub returns-in_ok-push-clause-joined : goal.returns-in_ok-push-clause-joined
returns-in_ok-push-clause-joined c =
    let a = c.args.alphabet.now in
    let H = alphabet_letters a c.requires.alphabet in
    subst (λ S. HasJoinablePair S (rule_at c.args.table.now c.args.i) (rule_at c.args.table.now c.args.j)) (sym c.in_ok-push.ensures.last)
    (pair_joined (letters_of a) H c.args.zeros.now c.requires.zeros c.args.c c.args.first c.args.table.now c.requires.growing c.requires.small c.args.i c.args.j c.requires.pair c.in-Some.u c.in-Some.v (forms_of c.args.table.now c.args.i c.args.j c.in_ok-u.field-0 c.in-Some.u c.in-Some.v c.in-Some.is c.in_ok-u.ensures.forms)
    (rewrite_rule c.in-Some-oriented.rule) (subst (λ O. IsOriented O c.in-Some.u c.in-Some.v (rewrite_rule c.in-Some-oriented.rule)) (alphabet_order a c.requires.alphabet) c.in-Some-oriented.ensures.some))

pub returns-in_default-clause-joined : goal.returns-in_default-clause-joined
returns-in_default-clause-joined c =
    let a = c.args.alphabet.now in
    let H = alphabet_letters a c.requires.alphabet in
    let one = c.in_ok-u.ensures.none (ap is_some c.in_default.is) in
    pair_same (letters_of a) H c.args.zeros.now c.requires.zeros c.args.c c.args.first c.args.table.now c.requires.growing c.requires.small c.args.i c.args.j c.requires.pair one.0 one.0 one.1 refl

pub returns-in_default-oriented-clause-joined : goal.returns-in_default-oriented-clause-joined
returns-in_default-oriented-clause-joined c =
    let a = c.args.alphabet.now in
    let H = alphabet_letters a c.requires.alphabet in
    pair_same (letters_of a) H c.args.zeros.now c.requires.zeros c.args.c c.args.first c.args.table.now c.requires.growing c.requires.small c.args.i c.args.j c.requires.pair c.in-Some.u c.in-Some.v (forms_of c.args.table.now c.args.i c.args.j c.in_ok-u.field-0 c.in-Some.u c.in-Some.v c.in-Some.is c.in_ok-u.ensures.forms) (c.in_default-oriented.ensures.none refl)
