use Rattle.std.proofs.Common.{◌<◌, sym, subst}
use Rattle.std.specs.Prelude.{Contains, IsTrue}
use Rattle.std.proofs.lemmas.Result.{on_ok_weaker}
use Rattle.monomial_order.specs.Monomial.{Exponents}
use Rattle.toric_ideal.specs.Listing.{AgreeTo, Listing}
use Rattle.toric_ideal.proofs.words.Words.extend_to.Goals as goal

pub extend_to-requires-clause-agree : goal.extend_to-requires-clause-agree
extend_to-requires-clause-agree c =
    subst (λ (W : Listing). W.degree < c.args.c → AgreeTo W.letters.degrees W.degree W.zeros c.args.zero.now) (sym c.self.view_is) c.requires.agree c.if-c-self.false

pub returns-clause-closed : goal.returns-clause-closed
returns-clause-closed c =
    on_ok_weaker c.extend_to.result (λ h _. (
      λ t. subst (λ (W : Listing). IsTrue W.closed × ((z : Exponents) → Contains c.args.zero.now z → Contains W.zeros z)) c.self.view_is (h.0 t),
      λ k. h.1 (subst (λ (W : Listing). IsTrue W.closed × ((z : Exponents) → Contains c.args.zero.now z → Contains W.zeros z)) (sym c.self.view_is) k),
    )) c.extend_to.ensures.closed
