use Rattle.std.proofs.Common.{◌≢◌, refl, sym, ap, subst}
use Rattle.std.specs.Prelude.{is_some, IfSome}
use Rattle.monomial_order.specs.Monomial.{least_common_multiple}
use Rattle.word_rules.specs.Rules.{rule_at, AreDecreasing, ArePairForms, IsSmallWord}
use Rattle.toric_ideal.specs.Alphabet.{letters_of}
use Rattle.toric_ideal.proofs.LetterLemmas.{alphabet_letters, alphabet_order}
use Rattle.toric_ideal.proofs.ClosedRules.{closing_decreasing, closing_lcm, forms_join, forms_show}
use Rattle.toric_ideal.proofs.closing.is_joined.Goals as goal

pub lcm_degree-requires-clause-small : goal.lcm_degree-requires-clause-small
lcm_degree-requires-clause-small c =
    let a = c.args.alphabet.now in
    (closing_lcm (letters_of a) (alphabet_letters a c.requires.alphabet) c.args.zeros.now c.args.c c.args.table.now c.requires.rules c.args.i c.args.j c.requires.first c.requires.second).small

pub different_forms-requires-clause-decreasing : goal.different_forms-requires-clause-decreasing
different_forms-requires-clause-decreasing c =
    let a = c.args.alphabet.now in
    subst (λ O. AreDecreasing O c.args.table.now) (sym (alphabet_order a c.requires.alphabet))
    (closing_decreasing (letters_of a) (alphabet_letters a c.requires.alphabet) c.args.zeros.now c.args.c c.args.table.now c.requires.rules)

pub different_forms-requires-clause-small : goal.different_forms-requires-clause-small
different_forms-requires-clause-small c =
    let a = c.args.alphabet.now in
    subst (λ O. IsSmallWord O (least_common_multiple (rule_at c.args.table.now c.args.i).left (rule_at c.args.table.now c.args.j).left)) (sym (alphabet_order a c.requires.alphabet))
    (closing_lcm (letters_of a) (alphabet_letters a c.requires.alphabet) c.args.zeros.now c.args.c c.args.table.now c.requires.rules c.args.i c.args.j c.requires.first c.requires.second)

pub returns-in-None-clause-yes : goal.returns-in-None-clause-yes
returns-in-None-clause-yes c t d =
    let a = c.args.alphabet.now in
    let one = c.in_ok-different_forms.ensures.none (ap is_some c.in-None.is) in
    forms_join (letters_of a) (alphabet_letters a c.requires.alphabet) c.args.zeros.now c.args.c c.args.table.now c.requires.rules c.args.i c.args.j one.0 one.0 one.1 refl

pub returns-in-Some-clause-no : goal.returns-in-Some-clause-no
returns-in-Some-clause-no c f =
    let a = c.args.alphabet.now in
    let R = c.args.table.now in
    let forms = subst (λ o. IfSome o (λ p. ArePairForms R (rule_at R c.args.i) (rule_at R c.args.j) p.0 p.1)) c.in-Some.is c.in_ok-different_forms.ensures.forms in
    let different = subst (λ o. IfSome o (λ p. p.0 ≢ p.1)) c.in-Some.is c.in_ok-different_forms.ensures.different in
    forms_show (letters_of a) (alphabet_letters a c.requires.alphabet) c.args.zeros.now c.args.c R c.requires.rules c.args.i c.args.j c.requires.first c.requires.second
    c.in-Some._different.0 c.in-Some._different.1 forms different
