use Rattle.std.proofs.Common.{sym, ◌∙◌, subst, ap, arith}
use Rattle.monomial_order.specs.Monomial.{product}
use Rattle.polynomial_text.specs.LineReading.{IsSmallMonomial}
use Rattle.polynomial_text.proofs.LinePowers.{low_one, exponent_low, small_product}
use Rattle.polynomial_text.proofs.term_line.times_power.Goals as goal

pub returns-then-exponent-eq0-clause-read : goal.returns-then-exponent-eq0-clause-read
returns-then-exponent-eq0-clause-read g c =
    low_one (g.O.Order.order c.args.o.now) (g.met.O.Order.laws c.args.o.now) c.args.m c.args.place c.args.exponent c.if-exponent-eq0.true c.requires.monomial.small

pub overflow_cast-exponent : goal.overflow_cast-exponent
overflow_cast-exponent g c =
    let low = exponent_low (g.O.Order.order c.args.o.now) (g.met.O.Order.laws c.args.o.now) c.args.m c.args.place c.args.exponent (c.requires.place (omega (arith, c.if-exponent-eq0.false))) (sym c.in_ok-is_low.ensures ∙ c.if-not-branch.false) in
    omega arith

pub returns-clause-small : goal.returns-clause-small
returns-clause-small g c =
    let small = small_product (g.O.Order.order c.args.o.now) (g.met.O.Order.laws c.args.o.now) c.args.m c.args.place c.args.exponent c.requires.monomial.monomial (c.requires.place (omega (arith, c.if-exponent-eq0.false))) (sym c.in_ok-is_low.ensures ∙ c.if-not-branch.false) in
    subst (IsSmallMonomial (g.O.Order.order c.args.o.now)) (sym (c.in_ok-times.ensures.product ∙ ap (product c.args.m) c.in_ok-raised.ensures)) small
