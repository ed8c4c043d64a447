use Rattle.std.proofs.Common.{sym, ap, ◌∙◌}
use Rattle.monomial_order.specs.Monomial.{exponent}
use Rattle.word_rules.proofs.Trimming.{trim_is}
use Rattle.word_rules.proofs.scratch.ScratchWord.to_monomial.Goals as goal

pub returns : goal.returns
returns c =
    sym (trim_is c.in_ok-word.word c.args.self.now c.in_ok-word.ensures.trimmed
    (λ p. c.in_ok-word.ensures.exponents p ∙ (ap (λ m. exponent m p) c.as_slice.ensures.value ∙ ap (λ m. exponent m p) c.self.view_is)))
