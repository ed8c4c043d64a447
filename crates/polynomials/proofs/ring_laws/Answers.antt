use Rattle.std.proofs.Common.{ap, append_assoc, append-nil}
use Rattle.polynomials.specs.Polynomial.{coefficient}
use Rattle.polynomials.specs.laws.Ring.{times_comm, times_assoc, times_plus}
use Rattle.polynomials.specs.laws.Same.{append_comm, minus_self}
use Rattle.polynomials.specs.laws.Value.{one_times}
use Rattle.polynomials.proofs.ring_laws.Goals as goal

pub returns-clause-sum_comm : goal.returns-clause-sum_comm
returns-clause-sum_comm g c p q = append_comm (g.F.Field.ops c.args.f.now) (g.met.F.Field.laws c.args.f.now) p q

pub returns-clause-sum_assoc : goal.returns-clause-sum_assoc
returns-clause-sum_assoc g c p q r m = ap (λ x. coefficient (g.F.Field.ops c.args.f.now) x m) (append_assoc p q r)

pub returns-clause-sum_zero : goal.returns-clause-sum_zero
returns-clause-sum_zero g c p m = ap (λ x. coefficient (g.F.Field.ops c.args.f.now) x m) (append-nil p)

pub returns-clause-sum_negated : goal.returns-clause-sum_negated
returns-clause-sum_negated g c p = minus_self (g.F.Field.ops c.args.f.now) (g.met.F.Field.laws c.args.f.now) p

pub returns-clause-product_comm : goal.returns-clause-product_comm
returns-clause-product_comm g c p q = times_comm (g.F.Field.ops c.args.f.now) (g.met.F.Field.laws c.args.f.now) p q

pub returns-clause-product_assoc : goal.returns-clause-product_assoc
returns-clause-product_assoc g c p q r = times_assoc (g.F.Field.ops c.args.f.now) (g.met.F.Field.laws c.args.f.now) p q r

pub returns-clause-product_one : goal.returns-clause-product_one
returns-clause-product_one g c p = one_times (g.F.Field.ops c.args.f.now) (g.met.F.Field.laws c.args.f.now) p

pub returns-clause-product_sum : goal.returns-clause-product_sum
returns-clause-product_sum g c p q r = times_plus (g.F.Field.ops c.args.f.now) (g.met.F.Field.laws c.args.f.now) p q r
