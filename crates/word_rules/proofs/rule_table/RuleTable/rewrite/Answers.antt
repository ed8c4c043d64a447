use Rattle.std.proofs.Common.{◌≡◌, sym, ap, subst, Some, ◌∙◌}
use Rattle.std.proofs.lemmas.Result.{IfOk-weaker}
use Rattle.monomial_order.specs.Monomial.{exponent}
use Rattle.word_rewriting.specs.Rewriting.{IsNormalForm}
use Rattle.word_rules.specs.Rules.{IsSmallWord}
use Rattle.word_rules.specs.Trimmed.{trim, trimmed}
use Rattle.word_rules.proofs.Trimming.{trim_is}
use Rattle.word_rules.proofs.rule_table.RuleTable.rewrite.Given as given
use Rattle.word_rules.proofs.rule_table.RuleTable.rewrite.Goals as goal

-- the word with zeros at its end
whole : (g : given.Over) (c : goal.In_ok-spread g) → trim c.in_ok-spread.spread ≡ c.args.word.now
whole g c = trim_is c.args.word.now c.in_ok-spread.spread c.requires.word.word.trimmed
    (λ p. ap (λ m. exponent m p) (sym c.as_slice.ensures.same) ∙ sym (c.in_ok-spread.ensures.same p))

pub finish-requires-clause-word : goal.finish-requires-clause-word
finish-requires-clause-word g c = subst (IsSmallWord (g.O.Order.order c.args.o.now)) (sym (whole g c)) c.requires.word

pub returns : goal.returns
returns g c = IfOk-weaker c.to_word.result (λ m. m ≡ trimmed c.in_ok-form.form) (IsNormalForm c.args.self.now (Some c.args.word.now))
    (λ m e. subst (IsNormalForm c.args.self.now (Some c.args.word.now)) (sym e)
    (subst (λ w. IsNormalForm c.args.self.now (Some w) (trimmed c.in_ok-form.form))
    (trim_is c.args.word.now c.in_ok-spread.spread c.requires.word.word.trimmed
    (λ p. ap (λ m. exponent m p) (sym c.as_slice.ensures.same) ∙ sym (c.in_ok-spread.ensures.same p)))
    c.in_ok-form.ensures.form)) c.to_word.ensures
