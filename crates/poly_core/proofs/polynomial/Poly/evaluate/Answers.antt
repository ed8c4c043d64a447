use Rattle.std.proofs.Common.{sym, subst, length}
use Rattle.std.specs.Prelude.{All}
use Rattle.polynomials.specs.Polynomial.{IsTerm}
use Rattle.polynomials.specs.laws.Terms.{terms_all}
use Rattle.poly_core.proofs.polynomial.Poly.evaluate.Goals as goal

pub sum_of_values-requires-clause-terms : goal.sum_of_values-requires-clause-terms
sum_of_values-requires-clause-terms g c =
    subst (All (IsTerm (g.F.Field.ops c.args.f.now) (length c.args.at.now))) (sym c.terms-2.ensures)
    (terms_all (g.F.Field.ops c.args.f.now) (length c.args.at.now) c.args.h.now c.requires.h)
