use Rattle.std.proofs.Common.{rules, ◌≡◌, suc, ◌-◌, ◌<◌, [], length, get_or, sym, ◌∙◌, ap, arith}
use Rattle.std.proofs.lemmas.Bool.{eq-eqb, true≢false}
use Rattle.std.proofs.lemmas.List.{get_or_default}
use Rattle.poly_core.specs.Presentation.{presented}
use Rattle.toric_ideal.specs.Listing.{Listing}
use Rattle.completion.proofs.LastDegree.{found_at, lead_is_monomial, lead_is_small, none_last}
use Rattle.completion.proofs.closing.has_last.Goals as goal

pub degree-requires-clause-monomial : goal.degree-requires-clause-monomial
degree-requires-clause-monomial g c =
    let P = presented g.F.Field.ops g.O.Order.order c.args.p.now in
    let leads = c.leads-leads.result.now in
    let l : length leads - 1 < length leads = search rules in
    lead_is_monomial P c.requires.presentation.presentation c.args.basis.now c.requires.basis c.index-leads-leads.result
    (found_at leads _ (length leads - 1) c.index-leads-leads.result
    (c.leads-leads.ensures.same ∙ ap (λ (w : Listing). w.letters.leads) c.words.ensures) l c.index-leads-leads.is)

pub degree-requires-clause-small : goal.degree-requires-clause-small
degree-requires-clause-small g c =
    let P = presented g.F.Field.ops g.O.Order.order c.args.p.now in
    let leads = c.leads-leads.result.now in
    let l : length leads - 1 < length leads = search rules in
    lead_is_small P c.requires.presentation.presentation c.args.basis.now c.requires.basis c.index-leads-leads.result
    (found_at leads _ (length leads - 1) c.index-leads-leads.result
    (c.leads-leads.ensures.same ∙ ap (λ (w : Listing). w.letters.leads) c.words.ensures) l c.index-leads-leads.is)

pub returns : goal.returns
returns g c h =
    let P = presented g.F.Field.ops g.O.Order.order c.args.p.now in
    let leads = c.leads-leads.result.now in
    let m = c.index-leads-leads.result in
    let l : length leads - 1 < length leads = search rules in
    let n : length leads ≡ suc (length leads - 1) = omega (arith, l) in
    let e = c.leads-leads.ensures.same ∙ ap (λ (w : Listing). w.letters.leads) c.words.ensures in
    let d = c.degree-2.ensures ∙ ap (λ (w : Listing). w.degree) c.words-2.ensures in
    none_last P c.requires.presentation.presentation c.args.basis.now c.requires.basis (length leads - 1) m
    (sym (ap length e) ∙ n) (ap (λ ms. get_or ms (length leads - 1) [])
    (sym e) ∙ (get_or_default leads (length leads - 1) [] m l ∙ sym c.index-leads-leads.is))
    (λ q. true≢false (sym (eq-eqb c.degree.result c.degree-2.result (c.degree.ensures ∙ (q ∙ sym d))) ∙ h))
