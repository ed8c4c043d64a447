use Rattle.std.proofs.Common.{◌∷◌, [], append-nil, arith, sym, subst, ap, set, Some, ◌∙◌}
use Rattle.word_rules.specs.Rules.{rule_at}
use Rattle.toric_ideal.specs.Renaming.{AreSetBy}
use Rattle.toric_ideal.specs.Rewriting.{rewrite_rules}
use Rattle.toric_ideal.proofs.Renamings.{next_within, rewrite_length, set_more, set_next, set_none}
use Rattle.toric_ideal.proofs.renaming.rename_list.Goals as goal

pub rename-init : goal.rename-init
rename-init c = ([], sym (append-nil c.args.renamings.items), set_none (rewrite_rules c.args.rules.now))

pub set_least-requires : goal.set_least-requires
set_least-requires c =
    let i = c.rename.invariant in
    let n = i.2.number in
    let p = rewrite_length c.args.rules.now in
    let q = rewrite_length c.rename.rules in
    let b = next_within c.args.renamings.items c.rename.renamings.items c.pop.new.self.items i.0 c.in-Some.renaming _ c.in-Some.ensures.items i.1 c.requires in
    omega arith

pub rename-preserved : goal.rename-preserved
rename-preserved c =
    let i = c.rename.invariant in
    let n = i.2.number in
    let p = rewrite_length c.args.rules.now in
    let b = next_within c.args.renamings.items c.rename.renamings.items c.pop.new.self.items i.0 c.in-Some.renaming _ c.in-Some.ensures.items i.1 c.requires in (
      c.in-Some.renaming ∷ i.0,
      set_next c.args.renamings.items c.rename.renamings.items c.pop.new.self.items i.0 c.in-Some.renaming c.in-Some.ensures.items i.1,
      subst (AreSetBy (c.in-Some.renaming ∷ i.0) (rewrite_rules c.args.rules.now)) (sym (c.set_least.ensures ∙ ap (λ l. set (rewrite_rules c.rename.rules) c.in-Some.renaming.index (record { left = (rule_at (rewrite_rules c.rename.rules) c.in-Some.renaming.index).left; right = Some l })) c.into_word.ensures))
          (set_more i.0 (rewrite_rules c.args.rules.now) (rewrite_rules c.rename.rules) c.in-Some.renaming (omega arith) i.2),
    )
