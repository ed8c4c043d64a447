use Rattle.std.proofs.Common.{◌≡◌, take, []}
use Rattle.polynomials.specs.Polynomial.{scaled, term_of}
use Rattle.poly_core.proofs.products.scale_terms.Given as goal

abbrev pub invariant-loop-t : goal.invariant-loop-t
invariant-loop-t g l = l.products.items ≡ scaled (g.F.Field.ops l.f) (term_of [] l.c) (take l.t-index l.terms)
