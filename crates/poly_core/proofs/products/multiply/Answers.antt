use Rattle.std.proofs.Common.{◌∙◌}
use Rattle.polynomials.specs.Polynomial.{times, Same}
use Rattle.polynomials.specs.laws.Ring.{times_comm}
use Rattle.polynomials.specs.laws.Terms.{small_swap}
use Rattle.poly_core.proofs.Steps.{if_ok}
use Rattle.poly_core.proofs.products.multiply.Goals as goal

pub multiply_by_halves-requires-else-a-b-clause-small : goal.multiply_by_halves-requires-else-a-b-clause-small
multiply_by_halves-requires-else-a-b-clause-small g c = small_swap (g.F.Field.ops c.args.f.now) (g.O.Order.order c.args.o.now) c.args.a.now c.args.b.now c.requires.small

pub returns-else-a-b-clause-product : goal.returns-else-a-b-clause-product
returns-else-a-b-clause-product g c =
    if_ok (λ r. Same (g.F.Field.ops c.args.f.now) r.items (times (g.F.Field.ops c.args.f.now) c.args.b.now c.args.a.now)) (λ r. Same (g.F.Field.ops c.args.f.now) r.items (times (g.F.Field.ops c.args.f.now) c.args.a.now c.args.b.now))
    c.multiply_by_halves-else-a-b.result (λ r h m. h m ∙ times_comm (g.F.Field.ops c.args.f.now) (g.met.F.Field.laws c.args.f.now) c.args.b.now c.args.a.now m) c.multiply_by_halves-else-a-b.ensures.product
