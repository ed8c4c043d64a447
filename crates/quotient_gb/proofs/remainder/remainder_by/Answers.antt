use Rattle.std.proofs.Common.{◌++◌, ◌∙◌, sym, ap, subst, append-nil}
use Rattle.std.specs.Prelude.{map}
use Rattle.polynomials.specs.Polynomial.{lead_monomial}
use Rattle.poly_core.specs.Presentation.{presented}
use Rattle.quotient_gb.specs.Remainder.{AreReducersIn, IsRemainderIn}
use Rattle.quotient_gb.proofs.remainder.remainder_by.Goals as goal

pub remainder-requires : goal.remainder-requires
remainder-requires g c =
    let P = presented g.F.Field.ops g.O.Order.order c.args.p.now in
    let G = c.args.basis.now.members.items in
    record {
      presentation = c.requires.presentation;
      places = c.requires.places;
      a = c.requires.a;
      before = c.requires.basis;
      found = c.new-none.ensures.leads ∙ ap (map lead_monomial) (sym c.new-none.ensures.members);
      reducers = subst (AreReducersIn P) (sym (append-nil G) ∙ ap (λ xs. G ++ xs) (sym c.new-none.ensures.members)) c.requires.reducers;
    }

pub returns : goal.returns
returns g c =
    let P = presented g.F.Field.ops g.O.Order.order c.args.p.now in
    let G = c.args.basis.now.members.items in
    subst (λ G. IsRemainderIn P G c.args.a.now c.in_ok-rest.rest) (ap (λ xs. G ++ xs) c.new-none.ensures.members ∙ append-nil G) c.in_ok-rest.ensures
