use Rattle.std.proofs.Common.{inl, inr, arith}
use Rattle.polynomial_text.proofs.LinePlaces.{number_past}
use Rattle.polynomial_text.proofs.named_place.numbered_place.Goals as goal

pub returns-in_default-number-clause-none : goal.returns-in_default-number-clause-none
returns-in_default-number-clause-none c = λ none.
    number_past c.args.word.now c.args.prefix c.args.skip c.args.count c.in-Some.n c.in-Some.ensures.some.0 c.in-Some.ensures.some.1 (omega (arith, c.ranges.count)) (inl c.if-n-count.false)

pub returns-in_default-number-2-clause-none : goal.returns-in_default-number-2-clause-none
returns-in_default-number-2-clause-none c = λ none.
    number_past c.args.word.now c.args.prefix c.args.skip c.args.count c.in-Some.n c.in-Some.ensures.some.0 c.in-Some.ensures.some.1 (omega (arith, c.ranges.count)) (inr (omega (arith, c.if-n-ge1.false)))
