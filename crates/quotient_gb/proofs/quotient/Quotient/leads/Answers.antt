use Rattle.std.proofs.Common.{◌∙◌, sym, ap, subst}
use Rattle.monomial_order.specs.MonomialOrder.{IsIncreasing}
use Rattle.quotient_gb.specs.IdealBasis.{AreIdealLeads}
use Rattle.quotient_gb.proofs.Knowing.{each_minimal, all_minimal, quotient_leads}
use Rattle.quotient_gb.proofs.quotient.Quotient.leads.Goals as goal

pub returns-clause-increasing : goal.returns-clause-increasing
returns-clause-increasing g c = λ P H h.
    subst (IsIncreasing P.order) (sym (c.as_slice.ensures.value ∙ ap (λ q. q.leads) c.self.view_is)) (quotient_leads P H c.args.self.now h).increasing

pub returns-clause-each : goal.returns-clause-each
returns-clause-each g c = λ P H h.
    each_minimal P H c.args.self.now.degree c.as_slice.result.now (subst (AreIdealLeads P c.args.self.now.degree) (sym (c.as_slice.ensures.value ∙ ap (λ q. q.leads) c.self.view_is)) (quotient_leads P H c.args.self.now h))

pub returns-clause-all : goal.returns-clause-all
returns-clause-all g c = λ P H h.
    all_minimal P H c.args.self.now.degree c.as_slice.result.now (subst (AreIdealLeads P c.args.self.now.degree) (sym (c.as_slice.ensures.value ∙ ap (λ q. q.leads) c.self.view_is)) (quotient_leads P H c.args.self.now h))
