use Rattle.std.proofs.Common.{sym, subst}
use Rattle.word_rewriting.specs.Rewriting.{IsNormalForm}
use Rattle.word_rules.specs.Rules.{rule_at}
use Rattle.toric_ideal.specs.Alphabet.{letters_of}
use Rattle.toric_ideal.specs.Step.{IsRewrittenAt}
use Rattle.toric_ideal.proofs.LetterLemmas.{alphabet_letters}
use Rattle.toric_ideal.proofs.Cleaning.{rewritten_at}
use Rattle.toric_ideal.proofs.right_sides.rewrite_right_side.Goals as goal

pub returns-clause-rewritten : goal.returns-clause-rewritten
returns-clause-rewritten c =
    let a = c.args.alphabet.now in
    subst (λ T. IsRewrittenAt (letters_of a) c.args.zeros.now c.args.table.now T c.args.i) (sym c.set_right.ensures)
    (rewritten_at (letters_of a) (alphabet_letters a c.requires.alphabet) c.args.zeros.now c.args.table.now c.requires.rules c.args.i c.in_ok-right_side.field-0 c.requires.inside
    (subst (IsNormalForm c.args.table.now (rule_at c.args.table.now c.args.i).right) (sym c.in_ok-right_side.ensures) c.in_ok-rewritten.ensures))
