use Rattle.std.proofs.Common.{◌∙◌, ap, take, drop}
use Rattle.monomial_order.proofs.Halves.{take-min, drop-min}
use Rattle.monomial_order.proofs.sums.split_places.Goals as goal

pub returns-clause-first : goal.returns-clause-first
returns-clause-first c =
    c.split_at.ensures.front ∙ (ap (λ i. take i c.args.exponents.now) c.min.ensures ∙ take-min c.args.first c.args.exponents.now)

pub returns-clause-rest : goal.returns-clause-rest
returns-clause-rest c = c.split_at.ensures.back ∙ (ap (λ i. drop i c.args.exponents.now) c.min.ensures ∙ drop-min c.args.first c.args.exponents.now)
