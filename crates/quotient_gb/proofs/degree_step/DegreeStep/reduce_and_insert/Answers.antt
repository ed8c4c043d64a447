use Rattle.std.proofs.Common.{◌≢◌, ◌∙◌, ap, [], length}
use Rattle.std.specs.Prelude.{nat_eq}
use Rattle.monomial_order.specs.laws.Lists.{contains_right}
use Rattle.poly_core.specs.Presentation.{presented}
use Rattle.quotient_gb.specs.DegreeStep.{all_members}
use Rattle.quotient_gb.proofs.Places.{empty_is, not_empty_is}
use Rattle.quotient_gb.proofs.Offering.{nothing_left, insertable}
use Rattle.quotient_gb.proofs.Steps.{member, reducers, later_itself, part_all}
use Rattle.quotient_gb.proofs.degree_step.DegreeStep.reduce_and_insert.Goals as goal

pub remainder-requires : goal.remainder-requires
remainder-requires g c = record {
  presentation = c.requires.step.presentation;
  places = c.requires.step.places;
  a = c.requires.canonical;
  before = c.requires.step.before.2.leads;
  found = c.requires.step.leads;
  reducers = reducers (presented g.F.Field.ops g.O.Order.order c.args.p.now) c.requires.step.presentation c.args.before.now c.args.self.now c.requires.step;
}

pub returns-then-is_empty-clause-later : goal.returns-then-is_empty-clause-later
returns-then-is_empty-clause-later g c =
    later_itself (presented g.F.Field.ops g.O.Order.order c.args.p.now) c.requires.step.presentation c.args.before.now c.args.self.now c.requires.step

pub returns-then-is_empty-clause-reduces : goal.returns-then-is_empty-clause-reduces
returns-then-is_empty-clause-reduces g c =
    let P = presented g.F.Field.ops g.O.Order.order c.args.p.now in
    let b = c.args.before.now in
    let s = c.args.self.now in
    let rest = c.in_ok-rest.rest in
    nothing_left P c.requires.step.presentation (all_members b s) (member P c.requires.step.presentation b s c.requires.step) c.args.a.now rest c.requires.canonical.decreasing c.requires.inside c.in_ok-rest.ensures.remainder
    (empty_is rest c.is_empty.result (c.is_empty.ensures ∙ ap (λ xs. nat_eq (length xs) 0) c.terms.ensures) c.if-is_empty.true)

pub insert-requires : goal.insert-requires
insert-requires g c =
    let P = presented g.F.Field.ops g.O.Order.order c.args.p.now in
    let b = c.args.before.now in
    let s = c.args.self.now in
    let rest = c.in_ok-rest.rest in
    let some : rest ≢ [] = not_empty_is rest c.is_empty.result (c.is_empty.ensures ∙ ap (λ xs. nat_eq (length xs) 0) c.terms.ensures) c.if-is_empty.false in
    let m = c.in_ok-member.ensures in
    let n = insertable P c.requires.step.presentation (all_members b s) (member P c.requires.step.presentation b s c.requires.step) c.args.a.now rest c.requires.canonical.decreasing c.requires.inside c.in_ok-rest.ensures.remainder
    c.in_ok-rest.ensures.canonical.decreasing some c.in_ok-member.member (m.canonical P.order c.in_ok-rest.ensures.canonical).decreasing m.lead (m.one some) m.multiple in
    record { step = c.requires.step; member = n.member; at_most = n.at_most s.degree c.requires.at_most; fresh = n.fresh }

pub returns-clause-reduces : goal.returns-clause-reduces
returns-clause-reduces g c =
    let P = presented g.F.Field.ops g.O.Order.order c.args.p.now in
    let b = c.args.before.now in
    let s = c.args.self.now in
    let s' = c.insert.new.self in
    let rest = c.in_ok-rest.rest in
    let some : rest ≢ [] = not_empty_is rest c.is_empty.result (c.is_empty.ensures ∙ ap (λ xs. nat_eq (length xs) 0) c.terms.ensures) c.if-is_empty.false in
    let m = c.in_ok-member.ensures in
    let n = insertable P c.requires.step.presentation (all_members b s) (member P c.requires.step.presentation b s c.requires.step) c.args.a.now rest c.requires.canonical.decreasing c.requires.inside c.in_ok-rest.ensures.remainder
    c.in_ok-rest.ensures.canonical.decreasing some c.in_ok-member.member (m.canonical P.order c.in_ok-rest.ensures.canonical).decreasing m.lead (m.one some) m.multiple in
    n.reduces (all_members b s') (part_all P b s s' c.in_ok-insert.ensures.later) (contains_right b.members.items s'.found.members.items c.in_ok-member.member c.in_ok-insert.ensures.member)
