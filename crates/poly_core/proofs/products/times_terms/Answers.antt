use Rattle.std.proofs.Common.{arith}
use Rattle.monomial_order.specs.laws.Monomial.{product_fits}
use Rattle.word_field.specs.Field.{IsValue}
use Rattle.polynomials.specs.Polynomial.{term_of, IsMeasured}
use Rattle.polynomials.specs.laws.Terms.{all_at, canonical_measured, decreasing_values, small_scaled_at}
use Rattle.poly_core.proofs.products.times_terms.Goals as goal

pub times-requires : goal.times-requires
times-requires g c = record {
  fits = product_fits (g.O.Order.order c.args.o.now) (g.met.O.Order.laws c.args.o.now) c.args.m.now c.t-item.result.at
      c.requires.term.monomial
      (all_at (IsMeasured (g.O.Order.order c.args.o.now)) c.args.terms.now c.loop-t.t-index c.t-item.result
      (canonical_measured (g.F.Field.ops c.args.f.now) (g.O.Order.order c.args.o.now) c.args.terms.now c.requires.canonical) (omega arith) c.t-item.is).monomial
      (small_scaled_at (g.F.Field.ops c.args.f.now) (g.O.Order.order c.args.o.now) (term_of c.args.m.now c.args.c) c.args.terms.now c.loop-t.t-index c.t-item.result c.requires.small (omega arith) c.t-item.is);
}

pub mul-requires-clause-right : goal.mul-requires-clause-right
mul-requires-clause-right g c =
    all_at (λ t. IsValue (g.F.Field.ops c.args.f.now) t.by) c.args.terms.now c.loop-t.t-index c.t-item.result (decreasing_values (g.F.Field.ops c.args.f.now) (g.O.Order.order c.args.o.now) c.args.terms.now c.requires.canonical.decreasing) (omega arith) c.t-item.is
