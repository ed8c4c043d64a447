use Rattle.std.proofs.Common.{refl, sym, ◌∙◌, ap, []}
use Rattle.polynomials.specs.laws.Coefficients.{monic_some}
use Rattle.std.specs.Prelude.{Contains}
use Rattle.polynomials.specs.Polynomial.{lead_monomial}
use Rattle.poly_core.specs.Presentation.{presented}
use Rattle.quotient_gb.specs.DegreeStep.{all_members}
use Rattle.quotient_gb.proofs.Places.{at_default}
use Rattle.quotient_gb.proofs.Remainders.{first_form}
use Rattle.quotient_gb.proofs.Steps.{found_front, found_reducer, member, reducers}
use Rattle.quotient_gb.proofs.Tails.{tail_reduced}
use Rattle.quotient_gb.proofs.degree_step.DegreeStep.with_reduced_tail.Goals as goal

pub unreachable-requires : goal.unreachable-requires
unreachable-requires g c =
    let P = presented g.F.Field.ops g.O.Order.order c.args.p.now in
    let H = c.requires.step.presentation in
    let x = c.index-x.result.now in
    monic_some P.field H.field P.order H.order x (found_reducer P H c.args.before.now c.args.self.now c.requires.step x (c.args.at, c.requires.index, sym c.index-x.ensures)).monic (c.in_default.ensures.zero.0 refl)

pub sub-requires-clause-a : goal.sub-requires-clause-a
sub-requires-clause-a g c =
    (found_reducer (presented g.F.Field.ops g.O.Order.order c.args.p.now) c.requires.step.presentation c.args.before.now c.args.self.now c.requires.step c.index-x.result.now (c.args.at, c.requires.index, sym c.index-x.ensures)).canonical

pub sub-requires-clause-b : goal.sub-requires-clause-b
sub-requires-clause-b g c =
    found_front (presented g.F.Field.ops g.O.Order.order c.args.p.now) c.requires.step.presentation c.args.before.now c.args.self.now c.requires.step c.index-x.result.now (c.args.at, c.requires.index, sym c.index-x.ensures)
    c.in-Some.first.now c.in-Some.ensures.first.0 c.in-Some.ensures.first.1 c.in_ok-front.front c.in_ok-copy.field-0 c.in_ok-copy.ensures.same c.in_ok-front.ensures.term

pub add-requires-clause-a : goal.add-requires-clause-a
add-requires-clause-a g c =
    found_front (presented g.F.Field.ops g.O.Order.order c.args.p.now) c.requires.step.presentation c.args.before.now c.args.self.now c.requires.step c.index-x.result.now (c.args.at, c.requires.index, sym c.index-x.ensures)
    c.in-Some.first.now c.in-Some.ensures.first.0 c.in-Some.ensures.first.1 c.in_ok-front.front c.in_ok-copy.field-0 c.in_ok-copy.ensures.same c.in_ok-front.ensures.term

pub remainder-requires : goal.remainder-requires
remainder-requires g c = record {
  presentation = c.requires.step.presentation;
  places = c.requires.step.places;
  a = c.in_ok-tail.ensures.canonical;
  before = c.requires.step.before.2.leads;
  found = c.requires.step.leads;
  reducers = reducers (presented g.F.Field.ops g.O.Order.order c.args.p.now) c.requires.step.presentation c.args.before.now c.args.self.now c.requires.step;
}

pub returns : goal.returns
returns g c =
    let P = presented g.F.Field.ops g.O.Order.order c.args.p.now in
    let H = c.requires.step.presentation in
    let b = c.args.before.now in
    let s = c.args.self.now in
    let h = c.requires.step in
    let x = c.index-x.result.now in
    let hx : Contains s.found.members.items x = (c.args.at, c.requires.index, sym c.index-x.ensures) in
    let k = (found_reducer P H b s h x (c.args.at, c.requires.index, sym c.index-x.ensures)).canonical in
    let t = c.in-Some.first.now in
    let r = c.in-Some.ensures.first in
    let y = tail_reduced P H (all_members b s) (member P H b s h) x (h.members x hx) t r.0 r.1 c.in_ok-front.front c.in_ok-tail.tail c.in_ok-rest.rest c.in_ok-member.member
    (first_form P H x k t r.0 r.1 c.in_ok-front.front c.in_ok-copy.field-0 c.in_ok-copy.ensures.same c.in_ok-front.ensures.term)
    c.in_ok-tail.ensures.canonical c.in_ok-tail.ensures.difference c.in_ok-rest.ensures c.in_ok-member.ensures.canonical c.in_ok-member.ensures.sum in
    record { member = y.member; lead = y.lead ∙ ap lead_monomial (sym (at_default s.found.members.items c.args.at x [] c.requires.index (sym c.index-x.ensures))); tail = y.tail }
