use Rattle.std.proofs.Common.{sym, ◌∙◌, ap, subst}
use Rattle.std.proofs.lemmas.List.{take-map}
use Rattle.word_rules.specs.Index.{IsIndexFor, lefts_of, rule_of, rules_of}
use Rattle.word_rules.proofs.Indexes.{table_taken}
use Rattle.word_rules.proofs.table.Table.truncate.Goals as goal

pub returns-clause-indexed : goal.returns-clause-indexed
returns-clause-indexed c =
    let t = c.args.self.now in
    subst (λ rs. IsIndexFor (lefts_of rs) t.by_letter t.by_pair) (sym c.truncate.ensures.items) (table_taken c.args.n t c.requires)

pub returns-clause-rules : goal.returns-clause-rules
returns-clause-rules c = ap rules_of c.truncate.ensures.items ∙ sym (take-map rule_of c.args.n c.args.self.now.rules.items)
