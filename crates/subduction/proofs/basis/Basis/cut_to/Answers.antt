use Rattle.std.proofs.Common.{◌≡◌, ◌∙◌, take, sym, ap, subst}
use Rattle.poly_core.specs.Presentation.{presented}
use Rattle.subduction.specs.Cutting.{AreNextInTurn, IsCutAt, IsFront}
use Rattle.subduction.proofs.CutBases.{cut_front, cut_within, leads_of, next_in_turn}
use Rattle.subduction.proofs.SettledBasis.{comparable}
use Rattle.subduction.proofs.basis.Basis.cut_to.Goals as goal

pub lower_count-count-requires : goal.lower_count-count-requires
lower_count-count-requires g c =
    let P = presented g.F.Field.ops g.O.Order.order c.args.p.now in
    let B = rw (sym c.self.view_is) at c.requires.basis in
    let p = B.parts in
    rw c.leads.ensures.same (comparable P c.requires.presentation.presentation _ B p.0 p.1 p.2)

pub split_at-requires : goal.split_at-requires
split_at-requires g c =
    let P = presented g.F.Field.ops g.O.Order.order c.args.p.now in
    let H = c.requires.presentation.presentation in
    let b = c.args.self.now in
    let leads : c.leads.result.now ≡ leads_of b.elements = c.leads.ensures.same ∙ (ap (λ b. b.words.letters.leads) c.self.view_is ∙ ap (λ L. L.leads) c.requires.basis.letters) in
    rw (c.as_slice.ensures.value ∙ ap (λ b. b.elements) c.self.view_is)
    (cut_within P H b c.requires.increasing c.args.d c.lower_count-count.result c.leads.result.now leads c.lower_count-count.ensures)

pub words_over-requires-clause-next : goal.words_over-requires-clause-next
words_over-requires-clause-next g c =
    let P = presented g.F.Field.ops g.O.Order.order c.args.p.now in
    let H = c.requires.presentation.presentation in
    let b = c.args.self.now in
    let n = c.lower_count-count.result in
    let leads : c.leads.result.now ≡ leads_of b.elements = c.leads.ensures.same ∙ (ap (λ b. b.words.letters.leads) c.self.view_is ∙ ap (λ L. L.leads) c.requires.basis.letters) in
    subst (AreNextInTurn P c.args.d) (sym (c.split_at.ensures.front ∙ ap (take n) (c.as_slice.ensures.value ∙ ap (λ b. b.elements) c.self.view_is)))
    (next_in_turn P H b c.requires.basis c.requires.increasing c.requires.minimal c.args.d (take n b.elements)
    (cut_front P H b c.requires.increasing c.args.d n c.leads.result.now leads c.lower_count-count.ensures))

pub returns-clause-basis : goal.returns-clause-basis
returns-clause-basis g c =
    let P = presented g.F.Field.ops g.O.Order.order c.args.p.now in
    subst (IsFront P c.extend_to.new.self c.in_ok-words.words c.in_ok-words.by_order)
    (c.split_at.ensures.front ∙ (ap (take c.lower_count-count.result) c.as_slice.ensures.value ∙ sym c.truncate.ensures.items))
    c.in_ok-words.ensures.front

pub returns-clause-elements : goal.returns-clause-elements
returns-clause-elements g c =
    let P = presented g.F.Field.ops g.O.Order.order c.args.p.now in
    let H = c.requires.presentation.presentation in
    let b = c.args.self.now in
    let n = c.lower_count-count.result in
    let leads : c.leads.result.now ≡ leads_of b.elements = c.leads.ensures.same ∙ (ap (λ b. b.words.letters.leads) c.self.view_is ∙ ap (λ L. L.leads) c.requires.basis.letters) in
    subst (IsCutAt P c.args.d b.elements) (ap (take n) (sym (ap (λ b. b.elements) c.self.view_is)) ∙ sym c.truncate.ensures.items)
    (cut_front P H b c.requires.increasing c.args.d n c.leads.result.now leads c.lower_count-count.ensures)
