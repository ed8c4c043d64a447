use Rattle.std.proofs.Common.{sym, subst}
use Rattle.monomial_order.specs.Monomial.{IsMultiple}
use Rattle.toric_ideal.specs.Listing.{Listing}
use Rattle.toric_ideal.proofs.words.Words.factor.Goals as goal

pub factor-requires-clause-standard : goal.factor-requires-clause-standard
factor-requires-clause-standard c = subst (λ (W : Listing). ¬ IsMultiple W.zeros c.args.m.now) (sym c.self.view_is) c.requires.standard
