use Rattle.std.proofs.Common.{refl, sym, subst, None}
use Rattle.std.specs.Prelude.{IfOk}
use Rattle.word_rewriting.specs.Rewriting.{WordOrZero, IsNormalForm, stays}
use Rattle.word_rules.specs.Rules.{AreDecreasing, IsSmallWord}
use Rattle.toric_ideal.specs.Alphabet.{letters_of}
use Rattle.toric_ideal.proofs.LetterLemmas.{alphabet_letters, alphabet_order}
use Rattle.toric_ideal.proofs.Cleaning.{right_small, small_decreasing}
use Rattle.toric_ideal.proofs.right_sides.right_form.Goals as goal

pub rewrite-requires-clause-word : goal.rewrite-requires-clause-word
rewrite-requires-clause-word c =
    let a = c.args.alphabet.now in
    subst (λ O. IsSmallWord O c.in-Some.word.now) (sym (alphabet_order a c.requires.alphabet))
    (right_small (letters_of a) (alphabet_letters a c.requires.alphabet) c.args.zeros.now c.args.table.now c.requires.rules c.args.i c.in-Some.word.now c.requires.inside c.in-Some.ensures.some)

pub rewrite-requires-clause-decreasing : goal.rewrite-requires-clause-decreasing
rewrite-requires-clause-decreasing c =
    let a = c.args.alphabet.now in
    subst (λ O. AreDecreasing O c.args.table.now) (sym (alphabet_order a c.requires.alphabet))
    (small_decreasing (letters_of a) (alphabet_letters a c.requires.alphabet) c.args.zeros.now c.args.table.now c.requires.rules)

pub returns-in-Some : goal.returns-in-Some
returns-in-Some c = subst (λ a. IfOk c.rewrite.result (IsNormalForm c.args.table.now a)) (sym c.in-Some.ensures.some) c.rewrite.ensures

pub returns-in-None : goal.returns-in-None
returns-in-None c = subst (λ (a : WordOrZero). IsNormalForm c.args.table.now a None) (sym (c.in-None.ensures.none refl)) (record { rewrites = stays; normal = tt })
