use Rattle.std.proofs.Common.{◌<◌, sym, subst}
use Rattle.std.proofs.lemmas.List.{length-map}
use Rattle.word_rewriting.specs.Rewriting.{HasLeftDivisor}
use Rattle.word_rules.specs.Index.{rule_of, rules_of}
use Rattle.word_rules.proofs.Lefts.{divisor_index}
use Rattle.word_rules.proofs.rule_table.RuleTable.find.Goals as goal

pub returns-clause-none : goal.returns-clause-none
returns-clause-none c = λ e d.
    let items = c.self.inside.table.rules.items in
    let k = divisor_index (rules_of items) c.args.word.now (subst (λ R. HasLeftDivisor R c.args.word.now) (sym c.self.view_is) d) in
    c.find.ensures.none e k.0 (subst (λ n. k.0 < n) (length-map items rule_of) k.1) k.2
