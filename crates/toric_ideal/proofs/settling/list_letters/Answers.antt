use Rattle.std.proofs.Common.{◌+◌, ◌++◌, ◌∷◌, [], ◌∙◌, ap, ◌<◌, get_or, length, refl, sym, subst, arith}
use Rattle.monomial_order.specs.laws.Lists.{contains_at}
use Rattle.word_rewriting.specs.Rewriting.{RewriteRule}
use Rattle.word_rules.specs.Rules.{rule_at}
use Rattle.toric_ideal.specs.Rewriting.{rewrite_rules}
use Rattle.toric_ideal.specs.Settling.{AreNewLetters, IsNewLetter}
use Rattle.toric_ideal.proofs.NewSides.{letters_more, letters_skip}
use Rattle.toric_ideal.proofs.Renamings.{listed_rule, rewrite_length}
use Rattle.toric_ideal.proofs.settling.list_letters.Goals as goal
use Rattle.toric_ideal.proofs.settling.list_letters.Goals.{in-Some+in_ok-new+in_ok-push, in_default}

pub list_letter-requires-clause-side : goal.list_letter-requires-clause-side
list_letter-requires-clause-side c =
    let d = c.index-rules-index.result in
    c.requires.sides (get_or c.args.rules.now c.rules.index d) (contains_at c.args.rules.now c.rules.index d (let t = c.rules-test.true in omega arith))

pub rules-preserved : goal.rules-preserved
rules-preserved c =
    let a = c.args.alphabet.now in
    let k = c.args.first in
    let after = c.args.leads.now in
    let rules = c.args.rules.now in
    let R = rewrite_rules rules in
    let i = c.rules.index in
    let n = rewrite_length rules in
    let l : i < length rules = (let t = c.rules-test.true in omega arith) in
    let h : IsNewLetter a k after (rule_at R i).right c.in_ok-letter.field-0 =
    subst (λ (t : RewriteRule). IsNewLetter a k after t.right c.in_ok-letter.field-0) (sym (listed_rule rules i c.index-rules-index.result l)) c.in_ok-letter.ensures in
    elim c.match-branch-2.branch [
      | in-Some+in_ok-new+in_ok-push b ↦
          subst (λ v. AreNewLetters a k after R (i + 1) v.items) (sym b.renamings-is) (subst (AreNewLetters a k after R (i + 1)) (sym (b.in_ok-push.ensures.items ∙ ap (λ r. c.rules.renamings.items ++ r ∷ []) b.in_ok-new.ensures))
          (letters_more a k after R i c.rules.renamings.items (record { index = i; letter = b.in-Some.letter }) refl
          (omega arith) (subst (IsNewLetter a k after (rule_at R i).right) b.in-Some.is h) c.rules.invariant))
      | in_default b ↦
          subst (λ v. AreNewLetters a k after R (i + 1) v.items) (sym b.renamings-is)
          (letters_skip a k after R i c.rules.renamings.items (subst (IsNewLetter a k after (rule_at R i).right) b.in_default.is h) c.rules.invariant)
    ]
