use Rattle.std.proofs.Common.{subst, sym}
use Rattle.std.specs.Prelude.{All}
use Rattle.std.proofs.lemmas.List.Elements.{All-cons}
use Rattle.monomial_order.specs.Monomial.{Divides}
use Rattle.worked_words.proofs.zeros.+is_apart.Goals as goal

pub returns-then-are_apart : goal.returns-then-are_apart
returns-then-are_apart t c h =
    let P = λ (y : Rattle.monomial_order.specs.Monomial.Exponents). (¬ Divides c.args.z.now y) × (¬ Divides y c.args.z.now) in
    subst (All P) (sym c.in-Some.ensures.cases.0)
    (All-cons P c.in-Some.y.now c.in-Some.rest.now (c.are_apart.ensures c.if-are_apart.true) (c.is_apart.ensures h))
