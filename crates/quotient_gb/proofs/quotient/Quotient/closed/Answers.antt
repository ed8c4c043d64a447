use Rattle.std.proofs.Common.{◌≤◌, sym, subst, inr}
use Rattle.std.specs.Prelude.{Contains}
use Rattle.poly_core.specs.Presentation.{presented}
use Rattle.quotient_gb.specs.Quotient.{QuotientState, IsQuotientOf, IsClosed, HasOtherLead}
use Rattle.quotient_gb.proofs.EveryDegree.{is_closed, found_closed}
use Rattle.quotient_gb.proofs.quotient.Quotient.closed.Goals as goal

pub all_reduce_to_zero-requires : goal.all_reduce_to_zero-requires
all_reduce_to_zero-requires g c =
    let P = presented g.F.Field.ops g.O.Order.order c.args.p.now in
    let q = subst (IsQuotientOf P) (sym c.self.view_is) c.requires.quotient in
    record {
      presentation = c.requires.presentation;
      places = c.requires.places;
      basis = (c.self.inside.degree, subst (λ (q : QuotientState g.row.F-Elem.Denot). q.degree ≤ 15000) (sym c.self.view_is) c.requires.small, record { leads = q.leads; basis = q.basis });
      pairs = λ w k. q.pairs.each w (subst (λ ws. Contains ws w) c.as_slice.ensures.value k);
    }

pub returns-clause-yes : goal.returns-clause-yes
returns-clause-yes g c = λ t.
    let P = presented g.F.Field.ops g.O.Order.order c.args.p.now in
    let q = subst (IsQuotientOf P) (sym c.self.view_is) c.requires.quotient in
    subst (λ (q : QuotientState g.row.F-Elem.Denot). IsClosed P q.degree q.leads) c.self.view_is
    (is_closed P c.requires.presentation c.self.inside.basis c.self.inside.degree (record { leads = q.leads; basis = q.basis }) c.self.inside.pairs.items q.pairs
    (c.has_generator_above.ensures.no c.if-has_generator_above.false) (λ w k. c.in_ok-closed.ensures.yes t w (subst (λ ws. Contains ws w) (sym c.as_slice.ensures.value) k)))

pub returns-clause-quotient : goal.returns-clause-quotient
returns-clause-quotient g c =
    let P = presented g.F.Field.ops g.O.Order.order c.args.p.now in
    found_closed P _ (subst (IsQuotientOf P) (sym c.self.view_is) c.requires.quotient) c.in_ok-closed.closed
    (λ t. subst (λ (q : QuotientState g.row.F-Elem.Denot). IsClosed P q.degree q.leads) (sym c.self.view_is) (returns-clause-yes g c t))

pub returns-clause-no : goal.returns-clause-no
returns-clause-no g c = λ t.
    let P = presented g.F.Field.ops g.O.Order.order c.args.p.now in
    inr (subst (λ (q : QuotientState g.row.F-Elem.Denot). HasOtherLead P q.leads) c.self.view_is (c.in_ok-closed.ensures.no t))
