use Rattle.std.proofs.Common.{◌∙◌, sym, ap, subst, length, [], rules}
use Rattle.monomial_order.specs.Monomial.{Divides}
use Rattle.quotient_gb.specs.IdealBasis.{AreIdealLeads}
use Rattle.quotient_gb.proofs.EveryDegree.{known_to}
use Rattle.quotient_gb.proofs.Knowing.{standard, not_standard, quotient_leads}
use Rattle.quotient_gb.proofs.Places.{at_default, below_stop}
use Rattle.quotient_gb.proofs.quotient.Quotient.is_standard.Goals as goal

pub returns-then-divides-clause-no : goal.returns-then-divides-clause-no
returns-then-divides-clause-no g c = λ t P H h hm.
    let q = c.args.self.now in
    let ls = c.deref-lead-items.result.now in
    not_standard P H q.degree ls (subst (AreIdealLeads P q.degree) (sym (c.deref-lead-items.ensures.value ∙ ap (λ q. q.leads) c.self.view_is)) (quotient_leads P H q h)) c.args.m.now
    c.lead-item.result (c.search.lead-index, c.search-test.true, sym c.lead-item.is) (c.divides.ensures.0 (search rules)) hm

pub returns-clause-yes : goal.returns-clause-yes
returns-clause-yes g c = λ t P H h hm l.
    let q = c.args.self.now in
    let ls = c.deref-lead-items.result.now in
    let k = known_to P q h (P.order.degree c.args.m.now) l in
    standard P H k.0 ls (subst (AreIdealLeads P k.0) (sym (c.deref-lead-items.ensures.value ∙ (ap (λ q. q.leads) c.self.view_is ∙ h.leads))) k.2.leads) c.args.m.now
    (λ n k d. c.search.invariant k.0 (below_stop k.0 (length ls) c.search.lead-index k.1 c.search-test.false) (subst (λ z. Divides z c.args.m.now) (sym (at_default ls k.0 n [] k.1 k.2)) d)) hm k.1
