use Rattle.std.proofs.Common.{◌<◌, ◌∙◌, ap, length, arith}
use Rattle.std.proofs.lemmas.List.{get_or_default}
use Rattle.monomial_order.specs.Monomial.{exponent}
use Rattle.word_rules.proofs.scratch.ScratchWord.exponent.Goals as goal

pub returns : goal.returns
returns c =
    let inside : c.args.letter < length c.self.inside.exponents.items = let e = ap length c.self.view_is in let l = c.requires in omega arith in
    c.index.ensures ∙ (get_or_default c.self.inside.exponents.items c.args.letter c.index.result.now 0 inside ∙ ap (λ es. exponent es c.args.letter) c.self.view_is)
