use Rattle.std.proofs.Common.{◌∷◌, ◌++◌, [], refl, sym, ◌∙◌, ap, subst}
use Rattle.poly_core.specs.Presentation.{presented}
use Rattle.toric_ideal.specs.Listing.{IsNewLead}
use Rattle.subduction.specs.Basis.{IsBasisOf, IsNewElement}
use Rattle.subduction.specs.NewElements.{IsNextElement}
use Rattle.subduction.proofs.NextElement.{short_longer}
use Rattle.subduction.proofs.Pushing.{element_longer, is_new_lead, pushed_basis}
use Rattle.subduction.proofs.basis.Basis.push.Goals as goal

pub push_lead_of-requires : goal.push_lead_of-requires
push_lead_of-requires g c =
    let P = presented g.F.Field.ops g.O.Order.order c.args.p.now in
    let X = c.in_ok-next.ensures in
    subst (IsNewLead c.self.inside.words) (sym X.lead)
    (is_new_lead P c.requires.presentation.presentation _ (subst (IsBasisOf P) (sym c.self.view_is) c.requires.basis) c.words.ensures.images c.args.t
    (subst (λ b. IsNewElement P b c.args.t) (sym c.self.view_is) c.requires.element))

pub returns-clause-basis : goal.returns-clause-basis
returns-clause-basis g c =
    let P = presented g.F.Field.ops g.O.Order.order c.args.p.now in
    let H = c.requires.presentation.presentation in
    let B = subst (IsBasisOf P) (sym c.self.view_is) c.requires.basis in
    let u = c.in_ok-next.next in
    let X = subst (λ b. IsNextElement P b c.args.t u) (sym c.self.view_is) c.in_ok-next.ensures in
    let elements = c.push_reserved.ensures.items ∙ ap (λ xs. xs ++ u ∷ []) c.reserve.ensures.items in
    let none = c.in_ok-longer.ensures.x ∙ B.by_order.no_x in
    let more = c.in_ok-longer.ensures.s ∙ ap (λ k. c.self.inside.by_order.s_degrees.items ++ k ∷ []) (c.degree.ensures ∙ sym X.degree) in
    pushed_basis P H _ B _ u elements none more
    (element_longer P H _ B _ u elements none more u X.element) X.degree refl c.words_are_listed.ensures
    c.in_ok-push_lead_of.ensures.letters c.push_lead_of.ensures.zeros c.push_lead_of.ensures.degree

pub returns-clause-short : goal.returns-clause-short
returns-clause-short g c =
    let P = presented g.F.Field.ops g.O.Order.order c.args.p.now in
    let u = c.in_ok-next.next in
    let X = c.in_ok-next.ensures in
    short_longer P c.requires.presentation.presentation c.args.self.now c.requires.basis c.args.t u X c.push_reserved.new.self.items
    (c.push_reserved.ensures.items ∙ (ap (λ xs. xs ++ u ∷ []) c.reserve.ensures.items ∙ ap (λ b. b.elements ++ u ∷ []) c.self.view_is))

pub returns-clause-kept : goal.returns-clause-kept
returns-clause-kept g c m l =
    let u = c.in_ok-next.next in
    c.push_reserved.ensures.items ∙ (ap (λ xs. xs ++ u ∷ []) c.reserve.ensures.items ∙ (ap (λ b. b.elements ++ u ∷ []) c.self.view_is ∙ ap (λ x. c.args.self.now.elements ++ x ∷ []) (c.in_ok-next.ensures.kept m l)))
