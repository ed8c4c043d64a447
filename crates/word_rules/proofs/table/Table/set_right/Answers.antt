use Rattle.std.proofs.Common.{refl, sym, ◌∙◌, ap, subst, [], set}
use Rattle.std.proofs.lemmas.List.{map-set}
use Rattle.word_rules.specs.Index.{IsIndexFor, rule_of, rules_of}
use Rattle.word_rules.specs.declared.word_rule.WordRule.{WordRule}
use Rattle.word_rules.specs.Rules.{no_rule}
use Rattle.word_rules.proofs.Listing.{at_read, map_same}
use Rattle.word_rules.proofs.table.Table.set_right.Goals as goal

pub returns-clause-indexed : goal.returns-clause-indexed
returns-clause-indexed c =
    let t = c.args.self.now in
    let s = c.index_mut.result.now in
    let v : WordRule = record { left = s.left; right = c.args.right } in
    subst (λ ls. IsIndexFor ls t.by_letter t.by_pair)
    (sym (map_same (λ r. r.left) [] t.rules.items c.args.i s v c.requires.inside c.index_mut.ensures.value refl)) c.requires.indexed

pub returns-clause-rules : goal.returns-clause-rules
returns-clause-rules c =
    let t = c.args.self.now in
    let s = c.index_mut.result.now in
    let v : WordRule = record { left = s.left; right = c.args.right } in
    map-set rule_of t.rules.items c.args.i v
    ∙ ap (λ w. set (rules_of t.rules.items) c.args.i (record { left = w; right = c.args.right }))
    (sym (ap (λ r. r.left) (at_read rule_of no_rule t.rules.items c.args.i s c.requires.inside c.index_mut.ensures.value)))
