use Rattle.std.proofs.Common.{◌≡◌, ap, ◌∙◌, refl}
use Rattle.monomial_order.specs.Monomial.{variable}
use Rattle.polynomial_text.proofs.LinePowers.{degree_with}
use Rattle.polynomial_text.proofs.term_line.is_low.Goals as goal

pub returns : goal.returns
returns g c =
    let d = degree_with (g.O.Order.order c.args.o.now) (g.met.O.Order.laws c.args.o.now) c.args.m.now c.args.place c.args.exponent in
    let of_m : c.from-2.result ≡ (g.O.Order.order c.args.o.now).degree c.args.m.now = c.from-2.ensures ∙ c.degree-2.ensures in
    let of_variable : c.from.result ≡ (g.O.Order.order c.args.o.now).degree (variable c.args.place) = c.from.ensures ∙ c.degree.ensures ∙ ap (g.O.Order.order c.args.o.now).degree c.in_ok-variable.ensures in
    rw (of_m, of_variable, d) refl
