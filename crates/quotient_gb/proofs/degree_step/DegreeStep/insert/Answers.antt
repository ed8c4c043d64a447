use Rattle.std.proofs.Common.{refl, sym, ◌∙◌, ap, subst}
use Rattle.polynomials.specs.laws.Coefficients.{monic_some}
use Rattle.std.specs.Prelude.{Contains}
use Rattle.polynomials.specs.Polynomial.{lead_monomial}
use Rattle.poly_core.specs.Presentation.{presented}
use Rattle.quotient_gb.proofs.Inserting.{insert_here}
use Rattle.quotient_gb.proofs.Steps.{step_leads, inserted}
use Rattle.quotient_gb.proofs.degree_step.DegreeStep.insert.Goals as goal

pub unreachable-requires : goal.unreachable-requires
unreachable-requires g c =
    let P = presented g.F.Field.ops g.O.Order.order c.args.p.now in
    monic_some P.field c.requires.step.presentation.field P.order c.requires.step.presentation.order c.args.member c.requires.member.monic (c.in_default.ensures.zero.0 refl)

pub insertion_index-at-requires-clause-leads : goal.insertion_index-at-requires-clause-leads
insertion_index-at-requires-clause-leads g c = λ n k.
    (step_leads (presented g.F.Field.ops g.O.Order.order c.args.p.now) c.requires.step.presentation c.args.before.now c.args.self.now c.requires.step n (subst (λ x. Contains x n) c.as_slice.ensures.value k)).0

pub insertion_index-at-requires-clause-small : goal.insertion_index-at-requires-clause-small
insertion_index-at-requires-clause-small g c = λ n k.
    (step_leads (presented g.F.Field.ops g.O.Order.order c.args.p.now) c.requires.step.presentation c.args.before.now c.args.self.now c.requires.step n (subst (λ x. Contains x n) c.as_slice.ensures.value k)).1

pub returns-clause-later : goal.returns-clause-later
returns-clause-later g c =
    inserted (presented g.F.Field.ops g.O.Order.order c.args.p.now) c.requires.step.presentation c.args.before.now c.args.self.now c.requires.step c.args.member c.requires.member c.requires.at_most c.requires.fresh
    c.insertion_index-at.result c.as_slice.result.now c.in_ok-lead.lead c.as_slice.ensures.value (c.in_ok-lead.ensures.same ∙ sym (ap lead_monomial c.in-Some.ensures.first.1)) c.insertion_index-at.ensures.within c.insertion_index-at.ensures.before c.insertion_index-at.ensures.after
    _ refl c.in_ok-insert-2.ensures.items c.in_ok-insert.ensures.items

pub returns-clause-member : goal.returns-clause-member
returns-clause-member g c =
    subst (λ xs. Contains xs c.args.member) (sym c.in_ok-insert-2.ensures.items) (insert_here c.args.self.now.found.members.items c.insertion_index-at.result c.args.member)
