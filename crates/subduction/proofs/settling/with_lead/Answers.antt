use Rattle.std.proofs.Common.{sym, ◌∙◌, true≢false}
use Rattle.monomial_order.specs.laws.Lists.{contains_none}
use Rattle.subduction.proofs.Reducing.{lead_end, lead_next}
use Rattle.subduction.proofs.settling.with_lead.Goals as goal

pub elements-init : goal.elements-init
elements-init g c = λ k. contains_none c.args.m.now k

pub elements-preserved : goal.elements-preserved
elements-preserved g c =
    lead_next c.args.elements.now c.elements.t-index c.t-item.result c.args.m.now c.elements-test.true c.t-item.is
    (λ e. true≢false (sym (c.has_lead.ensures.1 e) ∙ c.if-has_lead.false)) c.elements.invariant

pub unreachable-requires : goal.unreachable-requires
unreachable-requires g c = lead_end c.args.elements.now c.elements.t-index c.args.m.now c.elements-test.false c.elements.invariant c.requires
