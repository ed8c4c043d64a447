use Rattle.std.proofs.Common.{◌+◌, ◌++◌, ◌∷◌, [], ◌∙◌, ap, refl, sym, subst, arith}
use Rattle.toric_ideal.specs.Renaming.{AreRenamings}
use Rattle.toric_ideal.proofs.Renamings.{renamings_more, renamings_skip}
use Rattle.toric_ideal.proofs.renaming.table_renamings.Goals as goal
use Rattle.toric_ideal.proofs.renaming.table_renamings.Goals.{then-goes_to+in_ok-copy+in_ok-new+in_ok-push, else-goes_to}

pub rules-preserved : goal.rules-preserved
rules-preserved c =
    let w = c.args.word.now in
    let x = c.args.letter.now in
    let R = c.args.table.now in
    let i = c.rules.index in
    elim c.if-goes_to.branch [
      | then-goes_to+in_ok-copy+in_ok-new+in_ok-push b ↦
          subst (λ v. AreRenamings w x R (i + 1) v.items) (sym b.renamings-is) (subst (AreRenamings w x R (i + 1)) (sym (b.in_ok-push.ensures.items ∙ ap (λ r. c.rules.renamings.items ++ r ∷ []) b.in_ok-new.ensures))
          (renamings_more w x R i c.rules.renamings.items (record { index = i; letter = b.in_ok-copy.field-0 }) refl (record {
            within = let e = c.len-index-end.ensures in let t = c.rules-test.true in omega arith;
            right = c.goes_to.ensures.yes b.if-goes_to.true;
            becomes = b.in_ok-copy.ensures.same;
          }) c.rules.invariant))
      | else-goes_to b ↦
          subst (λ v. AreRenamings w x R (i + 1) v.items) (sym b.renamings-is) (renamings_skip w x R i c.rules.renamings.items (c.goes_to.ensures.no b.if-goes_to.false) c.rules.invariant)
    ]
