use Rattle.std.proofs.Common.{sym, ◌∙◌, subst, arith}
use Rattle.std.specs.Prelude.{Contains}
use Rattle.monomial_order.specs.laws.Comparing.{some_exponent}
use Rattle.monomial_order.specs.laws.Lists.{contains_none}
use Rattle.word_rules.proofs.LetterLists.{factor_of}
use Rattle.word_rules.proofs.rule_side.RuleSide.factors.Goals as goal

pub returns-clause-some : goal.returns-clause-some
returns-clause-some c = λ some none.
    let w = c.self.inside.word in
    let s = some_exponent w c.self.invariant.trimmed (λ e. some (sym c.self.view_is ∙ e)) in
    let f = factor_of w s.0 (λ e. let l = s.2 in omega arith) in
    contains_none f.0 (subst (λ fs. Contains fs f.0) (sym c.self.invariant.listed ∙ (sym c.as_slice.ensures.value ∙ none)) f.1)
