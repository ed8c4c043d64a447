use Rattle.std.proofs.Common.{◌+◌, ◌++◌, ◌∷◌, [], ◌∙◌, ap, refl, sym, subst, arith}
use Rattle.word_rules.specs.Rules.{rule_at}
use Rattle.toric_ideal.specs.Settling.{AreNewLetters, IsNewLetter}
use Rattle.toric_ideal.proofs.NewSides.{letters_more, letters_skip}
use Rattle.toric_ideal.proofs.settling.table_letters.Goals as goal
use Rattle.toric_ideal.proofs.settling.table_letters.Goals.{in-Some+in_ok-new+in_ok-push, in_default}

pub rules-preserved : goal.rules-preserved
rules-preserved c =
    let a = c.args.alphabet.now in
    let k = c.args.first in
    let after = c.args.leads.now in
    let R = c.args.table.now in
    let i = c.rules.index in
    let h = c.in_ok-letter.ensures in
    elim c.match-branch-2.branch [
      | in-Some+in_ok-new+in_ok-push b ↦
          subst (λ v. AreNewLetters a k after R (i + 1) v.items) (sym b.renamings-is) (subst (AreNewLetters a k after R (i + 1)) (sym (b.in_ok-push.ensures.items ∙ ap (λ r. c.rules.renamings.items ++ r ∷ []) b.in_ok-new.ensures))
          (letters_more a k after R i c.rules.renamings.items (record { index = i; letter = b.in-Some.letter }) refl
          (let e = c.len-index-end.ensures in let t = c.rules-test.true in omega arith) (subst (IsNewLetter a k after (rule_at R i).right) b.in-Some.is h) c.rules.invariant))
      | in_default b ↦
          subst (λ v. AreNewLetters a k after R (i + 1) v.items) (sym b.renamings-is)
          (letters_skip a k after R i c.rules.renamings.items (subst (IsNewLetter a k after (rule_at R i).right) b.in_default.is h) c.rules.invariant)
    ]
