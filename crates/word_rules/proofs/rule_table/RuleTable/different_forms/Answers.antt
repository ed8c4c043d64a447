use Rattle.std.proofs.Common.{subst, sym, ◌∙◌}
use Rattle.monomial_order.specs.Monomial.{least_common_multiple}
use Rattle.monomial_order.specs.laws.Monomial.{least_common_multiple_comm}
use Rattle.word_rules.specs.Rules.{ArePairForms, IsFormAfter, IsSmallWord, rule_at}
use Rattle.word_rules.specs.Trimmed.{trimmed}
use Rattle.word_rules.proofs.PairForms.{pair_forms, trimmed_different}
use Rattle.word_rules.proofs.rule_table.RuleTable.different_forms.Goals as goal

pub form_after-requires-2-clause-small : goal.form_after-requires-2-clause-small
form_after-requires-2-clause-small g c =
    subst (IsSmallWord (g.O.Order.order c.args.o.now))
    (least_common_multiple_comm (rule_at c.args.self.now c.args.i).left (rule_at c.args.self.now c.args.j).left) c.requires.small

pub returns-then-are_same-clause-none : goal.returns-then-are_same-clause-none
returns-then-are_same-clause-none g c = λ e.
    let R = c.args.self.now in
    let r = rule_at R c.args.i in
    let s = rule_at R c.args.j in
    let u = trimmed c.in_ok-first.first in
    (u, pair_forms R r s u u c.in_ok-first.ensures.form (subst (λ f. IsFormAfter R s (least_common_multiple s.left r.left) (trimmed f)) (sym (c.are_same.ensures.yes c.if-are_same.true)) c.in_ok-second.ensures.form))

pub returns-clause-forms : goal.returns-clause-forms
returns-clause-forms g c =
    let R = c.args.self.now in
    let r = rule_at R c.args.i in
    let s = rule_at R c.args.j in
    let forms = pair_forms R r s (trimmed c.in_ok-first.first) (trimmed c.in_ok-second.second) c.in_ok-first.ensures.form c.in_ok-second.ensures.form in
    subst (λ u. ArePairForms R r s u c.in_ok-to_word-2.field-0) (sym c.in_ok-to_word.ensures)
    (subst (ArePairForms R r s (trimmed c.in_ok-first.first)) (sym c.in_ok-to_word-2.ensures) forms)

pub returns-clause-different : goal.returns-clause-different
returns-clause-different g c = λ e.
    trimmed_different (g.O.Order.order c.args.o.now).places c.in_ok-first.first c.in_ok-second.second c.in_ok-first.ensures.long c.in_ok-second.ensures.long
    (c.are_same.ensures.no c.if-are_same.false) (sym c.in_ok-to_word.ensures ∙ (e ∙ c.in_ok-to_word-2.ensures))
