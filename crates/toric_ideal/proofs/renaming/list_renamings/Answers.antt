use Rattle.std.proofs.Common.{◌+◌, ◌++◌, ◌∷◌, [], ◌∙◌, refl, sym, ap, subst, arith}
use Rattle.word_rewriting.specs.Rewriting.{RewriteRule}
use Rattle.toric_ideal.specs.declared.rule.Rule.{Rule}
use Rattle.toric_ideal.specs.Rewriting.{rewrite_rules}
use Rattle.toric_ideal.specs.Renaming.{AreRenamings}
use Rattle.toric_ideal.proofs.Renamings.{listed_rule, renamings_more, renamings_skip, rewrite_length}
use Rattle.toric_ideal.proofs.renaming.list_renamings.Goals as goal
use Rattle.toric_ideal.proofs.renaming.list_renamings.Goals.{then-has_least+in_ok-copy+in_ok-new+in_ok-push, else-has_least}

pub rules-preserved : goal.rules-preserved
rules-preserved c =
    let w = c.args.word.now in
    let x = c.args.letter.now in
    let R = rewrite_rules c.args.rules.now in
    let i = c.rules.index in
    let e = ap (λ (r : RewriteRule). r.right) (listed_rule c.args.rules.now i c.index-rules-index.result (let t = c.rules-test.true in omega arith)) ∙ ap (λ (r : Rule). r.least) (sym c.index-rules-index.is) in
    elim c.if-has_least.branch [
      | then-has_least+in_ok-copy+in_ok-new+in_ok-push b ↦
          subst (λ v. AreRenamings w x R (i + 1) v.items) (sym b.renamings-is) (subst (AreRenamings w x R (i + 1)) (sym (b.in_ok-push.ensures.items ∙ ap (λ r. c.rules.renamings.items ++ r ∷ []) b.in_ok-new.ensures))
          (renamings_more w x R i c.rules.renamings.items (record { index = i; letter = b.in_ok-copy.field-0 }) refl (record {
            within = let n = rewrite_length c.args.rules.now in let t = c.rules-test.true in omega arith;
            right = e ∙ c.has_least.ensures.yes b.if-has_least.true;
            becomes = b.in_ok-copy.ensures.same;
          }) c.rules.invariant))
      | else-has_least b ↦
          subst (λ v. AreRenamings w x R (i + 1) v.items) (sym b.renamings-is) (renamings_skip w x R i c.rules.renamings.items (λ q. c.has_least.ensures.no b.if-has_least.false (sym e ∙ q)) c.rules.invariant)
    ]
