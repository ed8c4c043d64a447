use Rattle.std.proofs.Common.{◌≡◌, ◌∙◌, ◌++◌, ◌∷◌, List, ap, arith, drop, length, subst, take}
use Rattle.std.proofs.Math.Seq.{take-append_seam}
use Rattle.toric_ideal.specs.declared.rule.Rule.{Rule}
use Rattle.toric_ideal.specs.Renaming.{AreSetBy}
use Rattle.toric_ideal.specs.Rewriting.{rewrite_rules}
use Rattle.toric_ideal.proofs.Renamings.{rewrite_length}
use Rattle.toric_ideal.proofs.leading.change_rules.Goals as goal

pub returns-clause-rules : goal.returns-clause-rules
returns-clause-rules c =
    let D = c.rename_list.new.rules in
    let old = c.args.rules.now.items in
    let y : AreSetBy c.args.change.in_list.items (rewrite_rules old) (rewrite_rules D) =
    subst (λ (rs : List Rule). AreSetBy c.args.change.in_list.items (rewrite_rules rs) (rewrite_rules D)) c.deref_mut.ensures.value c.rename_list.ensures in
    let n : c.args.rules.now.len ≡ length D = (let a = y.number in let b = rewrite_length old in let d = rewrite_length D in let o = c.args.rules.now.ok in omega arith) in
    let e : take c.args.rules.now.len (D ++ drop (length D) old) ≡ D = ap (λ k. take k (D ++ drop (length D) old)) n ∙ take-append_seam D (drop (length D) old) in (
      D,
      y,
      subst (λ (xs : List Rule). c.insert_reserved.new.rules.items ≡ take c.args.change.index xs ++ c.args.change.rule ∷ drop c.args.change.index xs) e c.insert_reserved.ensures,
    )
