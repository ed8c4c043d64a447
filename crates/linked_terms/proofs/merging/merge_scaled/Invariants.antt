use Rattle.polynomials.specs.Polynomial.{term_of}
use Rattle.linked_terms.proofs.Scaling.{IsMerging}
use Rattle.linked_terms.proofs.merging.merge_scaled.Given as goal

abbrev pub invariant-loop-t : goal.invariant-loop-t
invariant-loop-t g l = IsMerging (g.F.Field.ops l.f) (g.O.Order.order l.o) (term_of l.m l.c) l.terms l.initial.list l.t-index l.list
