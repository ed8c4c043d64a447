use Rattle.polynomials.specs.laws.Decreasing.{IsDecreasing_unique}
use Rattle.polynomials.proofs.decreasing_form_is_unique.Goals as goal

pub returns : goal.returns
returns g c p q h k e = IsDecreasing_unique (g.F.Field.ops c.args.f.now) (g.met.F.Field.laws c.args.f.now) (g.O.Order.order c.args.o.now) (g.met.O.Order.laws c.args.o.now) p q h k e
