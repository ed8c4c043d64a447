use Rattle.std.proofs.Common.{sym, ◌∙◌}
use Rattle.polynomials.specs.Polynomial.{term_of}
use Rattle.linked_terms.proofs.Adding.{sum_nothing}
use Rattle.linked_terms.proofs.term_chain.TermChain.add_scaled.Goals as goal

pub returns-then-eq-clause-sum : goal.returns-then-eq-clause-sum
returns-then-eq-clause-sum g c =
    sum_nothing (g.F.Field.ops c.args.f.now) (g.met.F.Field.laws c.args.f.now) (g.O.Order.order c.args.o.now) (g.met.O.Order.laws c.args.o.now)
    (term_of c.args.m.now c.args.c) ((g.met.F.Field.eq_is c.args.c c.zero.result).0 (sym c.if-eq.ensures) ∙ c.zero.ensures) c.args.self.now.terms c.args.terms.now
