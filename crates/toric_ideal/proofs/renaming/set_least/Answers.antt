use Rattle.std.proofs.Common.{◌∙◌, ap, set, sym, Some}
use Rattle.std.proofs.lemmas.List.{map-set}
use Rattle.word_rewriting.specs.Rewriting.{RewriteRule}
use Rattle.toric_ideal.specs.Rewriting.{rewrite_rule, rewrite_rules}
use Rattle.toric_ideal.proofs.Renamings.{listed_rule}
use Rattle.toric_ideal.proofs.renaming.set_least.Goals as goal

pub returns : goal.returns
returns c =
    let rules = c.args.rules.now in
    let i = c.args.index in
    let d = c.index-rules-index.result in
    map-set rewrite_rule rules i _ ∙ ap (λ u. set (rewrite_rules rules) i (record { left = u; right = Some c.args.letter })) (sym (ap (λ (r : RewriteRule). r.left) (listed_rule rules i d c.requires)))
