use Rattle.polynomials.specs.laws.Ideal.{InIdeal_plus, InIdeal_times}
use Rattle.polynomials.specs.laws.Degrees.{ideal_component}
use Rattle.polynomials.proofs.ideal_laws.Goals as goal

pub returns-clause-sums : goal.returns-clause-sums
returns-clause-sums g c rs a b h k = InIdeal_plus (g.F.Field.ops c.args.f.now) (g.met.F.Field.laws c.args.f.now) (g.O.Order.order c.args.o.now).places rs a b h k

pub returns-clause-multiples : goal.returns-clause-multiples
returns-clause-multiples g c rs q a hq h = InIdeal_times (g.F.Field.ops c.args.f.now) (g.met.F.Field.laws c.args.f.now) (g.O.Order.order c.args.o.now).places rs q a hq h

pub returns-clause-parts : goal.returns-clause-parts
returns-clause-parts g c rs d a hr h = ideal_component (g.F.Field.ops c.args.f.now) (g.met.F.Field.laws c.args.f.now) (g.O.Order.order c.args.o.now) (g.met.O.Order.laws c.args.o.now) rs hr d a h
