use Rattle.std.proofs.Common.{◌≡◌, ◌≤◌, ◌+◌, ◌*◌, length, arith, sym, ap, subst, ◌∙◌}
use Rattle.polynomials.specs.Polynomial.{coefficient, degree_of, IsCanonical, IsSmall, times}
use Rattle.poly_core.specs.Powers.{IsPowerOf}
use Rattle.poly_core.proofs.Evaluating.{power_found, next_small, next_power}
use Rattle.poly_core.proofs.values.Powers.next.Goals as goal

pub multiply-requires-clause-b : goal.multiply-requires-clause-b
multiply-requires-clause-b g c =
    let e : length c.self.inside.from_square.items ≡ length c.args.self.now = ap length c.self.view_is in
    subst (IsCanonical (g.F.Field.ops c.args.f.now) (g.O.Order.order c.args.o.now)) (sym c.terms-2.ensures)
    (power_found (g.F.Field.ops c.args.f.now) (g.met.F.Field.laws c.args.f.now) (g.O.Order.order c.args.o.now) (g.met.O.Order.laws c.args.o.now) c.args.p.now c.args.self.now (c.len.result + 1) c.power-last.result.now
    c.requires.canonical c.requires.powers (omega arith) (omega arith) c.power-last.ensures.first c.power-last.ensures.next).canonical

pub multiply-requires-clause-small : goal.multiply-requires-clause-small
multiply-requires-clause-small g c =
    let e : length c.self.inside.from_square.items ≡ length c.args.self.now = ap length c.self.view_is in
    subst (λ x. IsSmall (g.O.Order.order c.args.o.now) (times (g.F.Field.ops c.args.f.now) x c.terms-2.result.now)) (sym c.terms.ensures)
    (subst (λ x. IsSmall (g.O.Order.order c.args.o.now) (times (g.F.Field.ops c.args.f.now) c.args.p.now x)) (sym c.terms-2.ensures)
    (next_small (g.F.Field.ops c.args.f.now) (g.met.F.Field.laws c.args.f.now) (g.O.Order.order c.args.o.now) (g.met.O.Order.laws c.args.o.now) c.args.p.now (c.len.result + 1) c.power-last.result.now c.requires.canonical
    (power_found (g.F.Field.ops c.args.f.now) (g.met.F.Field.laws c.args.f.now) (g.O.Order.order c.args.o.now) (g.met.O.Order.laws c.args.o.now) c.args.p.now c.args.self.now (c.len.result + 1) c.power-last.result.now
    c.requires.canonical c.requires.powers (omega arith) (omega arith) c.power-last.ensures.first c.power-last.ensures.next)
    (subst (λ n. n * degree_of (g.O.Order.order c.args.o.now) c.args.p.now ≤ 65535) (let n : length c.args.self.now + 2 ≡ c.len.result + 1 + 1 = omega arith in n) c.requires.small)))

pub returns : goal.returns
returns g c =
    let e : length c.self.inside.from_square.items ≡ length c.args.self.now = ap length c.self.view_is in
    subst (λ n. IsPowerOf (g.F.Field.ops c.args.f.now) (g.O.Order.order c.args.o.now) c.args.p.now n c.from_falling.result) (let n : c.len.result + 1 + 1 ≡ length c.args.self.now + 2 = omega arith in n)
    (subst (IsPowerOf (g.F.Field.ops c.args.f.now) (g.O.Order.order c.args.o.now) c.args.p.now (c.len.result + 1 + 1)) (sym c.from_falling.ensures)
    (next_power (g.F.Field.ops c.args.f.now) (g.met.F.Field.laws c.args.f.now) (g.O.Order.order c.args.o.now) (g.met.O.Order.laws c.args.o.now) c.args.p.now (c.len.result + 1) c.power-last.result.now c.in_ok-terms.terms.items
    (power_found (g.F.Field.ops c.args.f.now) (g.met.F.Field.laws c.args.f.now) (g.O.Order.order c.args.o.now) (g.met.O.Order.laws c.args.o.now) c.args.p.now c.args.self.now (c.len.result + 1) c.power-last.result.now
    c.requires.canonical c.requires.powers (omega arith) (omega arith) c.power-last.ensures.first c.power-last.ensures.next)
    c.in_ok-terms.ensures.canonical
    (λ m. c.in_ok-terms.ensures.product m ∙ ap (λ x. coefficient (g.F.Field.ops c.args.f.now) x m) (ap (λ x. times (g.F.Field.ops c.args.f.now) x c.terms-2.result.now) c.terms.ensures ∙ ap (times (g.F.Field.ops c.args.f.now) c.args.p.now) c.terms-2.ensures))))
