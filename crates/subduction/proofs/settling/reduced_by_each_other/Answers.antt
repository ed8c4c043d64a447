use Rattle.std.proofs.Common.{sym, ◌∙◌, subst, []}
use Rattle.std.specs.Prelude.{Contains}
use Rattle.std.proofs.lemmas.List.{take_all}
use Rattle.std.proofs.lemmas.List.Elements.{All-push}
use Rattle.monomial_order.specs.laws.Lists.{contains_at, contains_none}
use Rattle.poly_core.specs.Presentation.{presented}
use Rattle.witness.specs.Tracking.{by_order, IsCanonicalPair}
use Rattle.subduction.specs.Settling.{AreLess, AreMadeFrom}
use Rattle.subduction.specs.laws.Parts.{contains-All}
use Rattle.subduction.proofs.Reducing.{made_next}
use Rattle.subduction.proofs.settling.reduced_by_each_other.Goals as goal

pub leads-init : goal.leads-init
leads-init g c = rw c.new-new.ensures.items (record { canonical = contains-All _ [] (λ x k. absurd (contains_none x k)); made = tt })

pub with_lead-t-requires : goal.with_lead-t-requires
with_lead-t-requires g c =
    subst (λ ms. Contains ms c.m-item.result) c.requires.leads
    ((c.in_ok-increasing.ensures.members c.m-item.result).1
    (subst (λ ms. Contains ms c.m-item.result) c.deref-m-items.ensures.value
    (subst (Contains c.deref-m-items.result.now) (sym c.m-item.is) (contains_at c.deref-m-items.result.now c.leads.m-index c.m-item.result c.leads-test.true))))

pub reduced-requires-clause-others : goal.reduced-requires-clause-others
reduced-requires-clause-others g c = rw c.as_slice.ensures.value c.leads.invariant.canonical

pub leads-preserved : goal.leads-preserved
leads-preserved g c =
    let P = presented g.F.Field.ops g.O.Order.order c.args.p.now in
    let W = by_order c.args.w.now in
    record {
      canonical = rw c.in_ok-push.ensures.items (All-push (IsCanonicalPair (g.F.Field.ops c.args.p.now.field) (g.O.Order.order c.args.p.now.order) W) c.leads.new.items c.in_ok-reduced.field-0 c.leads.invariant.canonical c.in_ok-reduced.ensures.canonical);
      made = rw c.in_ok-push.ensures.items (made_next P W c.args.elements.now c.deref-m-items.result.now c.leads.m-index c.m-item.result c.leads.new.items c.with_lead-t.result.now c.in_ok-reduced.field-0
          c.leads-test.true c.m-item.is c.leads.invariant.made c.with_lead-t.ensures.element c.with_lead-t.ensures.lead
          (subst (λ us. AreLess P W c.with_lead-t.result.now us c.in_ok-reduced.field-0) c.as_slice.ensures.value c.in_ok-reduced.ensures.less));
    }

pub returns : goal.returns
returns g c =
    let P = presented g.F.Field.ops g.O.Order.order c.args.p.now in
    let W = by_order c.args.w.now in
    record {
      sorted = c.in_ok-increasing.increasing.items;
      in_order = c.in_ok-increasing.ensures;
      made = subst (λ ms. AreMadeFrom P W c.args.elements.now [] ms c.leads.new.items) (take_all c.leads.m-index c.deref-m-items.result.now c.leads-test.false ∙ c.deref-m-items.ensures.value) c.leads.invariant.made;
    }
