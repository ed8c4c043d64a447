use Rattle.std.proofs.Common.{◌≤◌, refl, subst, inl, inr, ⊎_elim, arith}
use Rattle.poly_core.specs.Presentation.{presented}
use Rattle.witness.specs.Tracking.{values_of}
use Rattle.word_values.specs.Values.{IsWordValue, word_degree}
use Rattle.word_values.proofs.Following.{next_of, next_values, next_degrees, next_stays, reach_next}
use Rattle.word_values.proofs.values.Values.make_path.Goals as goal

pub next_value-requires-clause-making : goal.next_value-requires-clause-making
next_value-requires-clause-making g c =
    let P = presented g.F.Field.ops g.O.Order.order c.args.p.now in
    let S = values_of c.args.elements.now in
    let l = (next_of P S c.args.w.now c.steps.steps.items c.pop.new.self.items c.in-Some.step c.steps.made c.args.self.now c.steps.self c.in-Some.ensures.items c.steps.invariant).degree in
    record {
      quotient = c.requires.making.quotient;
      elements = c.requires.making.elements;
      degree = ⊎_elim {A = word_degree P S c.args.w.now ≤ c.args.q.now.degree} (λ d. inl (omega arith)) (λ z. inr z) c.requires.making.degree;
      small = let s = c.requires.making.small in omega arith;
    }

pub next_value-requires-clause-split : goal.next_value-requires-clause-split
next_value-requires-clause-split g c =
    let P = presented g.F.Field.ops g.O.Order.order c.args.p.now in
    let t = (next_of P (values_of c.args.elements.now) c.args.w.now c.steps.steps.items c.pop.new.self.items c.in-Some.step c.steps.made c.args.self.now c.steps.self c.in-Some.ensures.items c.steps.invariant).step.split in
    record { word = t.word; first = t.first; last = t.last; whole_is = refl }

pub next_value-requires-clause-ready : goal.next_value-requires-clause-ready
next_value-requires-clause-ready g c =
    let P = presented g.F.Field.ops g.O.Order.order c.args.p.now in
    (next_of P (values_of c.args.elements.now) c.args.w.now c.steps.steps.items c.pop.new.self.items c.in-Some.step c.steps.made c.args.self.now c.steps.self c.in-Some.ensures.items c.steps.invariant).ready

pub next_value-requires-clause-made : goal.next_value-requires-clause-made
next_value-requires-clause-made g c =
    let P = presented g.F.Field.ops g.O.Order.order c.args.p.now in
    (next_of P (values_of c.args.elements.now) c.args.w.now c.steps.steps.items c.pop.new.self.items c.in-Some.step c.steps.made c.args.self.now c.steps.self c.in-Some.ensures.items c.steps.invariant).value

pub offer-requires-clause-word : goal.offer-requires-clause-word
offer-requires-clause-word g c =
    let P = presented g.F.Field.ops g.O.Order.order c.args.p.now in
    (next_of P (values_of c.args.elements.now) c.args.w.now c.steps.steps.items c.pop.new.self.items c.in-Some.step c.steps.made c.args.self.now c.steps.self c.in-Some.ensures.items c.steps.invariant).step.word

pub offer-requires-clause-long : goal.offer-requires-clause-long
offer-requires-clause-long g c =
    let P = presented g.F.Field.ops g.O.Order.order c.args.p.now in
    (next_of P (values_of c.args.elements.now) c.args.w.now c.steps.steps.items c.pop.new.self.items c.in-Some.step c.steps.made c.args.self.now c.steps.self c.in-Some.ensures.items c.steps.invariant).step.long

pub offer-requires-clause-value : goal.offer-requires-clause-value
offer-requires-clause-value g c =
    let P = presented g.F.Field.ops g.O.Order.order c.args.p.now in
    let S = values_of c.args.elements.now in
    let n = next_of P S c.args.w.now c.steps.steps.items c.pop.new.self.items c.in-Some.step c.steps.made c.args.self.now c.steps.self c.in-Some.ensures.items c.steps.invariant in
    subst (λ u. IsWordValue P S u c.in_ok-value.value) n.step.split.whole_is c.in_ok-value.ensures

pub returns-in_err-made-clause-values : goal.returns-in_err-made-clause-values
returns-in_err-made-clause-values g c =
    let P = presented g.F.Field.ops g.O.Order.order c.args.p.now in
    let S = values_of c.args.elements.now in
    let n = next_of P S c.args.w.now c.steps.steps.items c.pop.new.self.items c.in-Some.step c.steps.made c.args.self.now c.steps.self c.in-Some.ensures.items c.steps.invariant in
    let value = subst (λ u. IsWordValue P S u c.in_ok-value.value) n.step.split.whole_is c.in_ok-value.ensures in
    next_values P S c.args.w.now c.steps.steps.items c.pop.new.self.items c.in-Some.step c.steps.made c.args.self.now c.steps.self c.offer.new.self c.in_ok-value.value c.in-Some.ensures.items c.steps.invariant c.offer.ensures.table value

pub returns-in_err-made-clause-degrees : goal.returns-in_err-made-clause-degrees
returns-in_err-made-clause-degrees g c =
    let P = presented g.F.Field.ops g.O.Order.order c.args.p.now in
    let S = values_of c.args.elements.now in
    let n = next_of P S c.args.w.now c.steps.steps.items c.pop.new.self.items c.in-Some.step c.steps.made c.args.self.now c.steps.self c.in-Some.ensures.items c.steps.invariant in
    let value = subst (λ u. IsWordValue P S u c.in_ok-value.value) n.step.split.whole_is c.in_ok-value.ensures in
    next_degrees P S c.args.w.now c.steps.steps.items c.pop.new.self.items c.in-Some.step c.steps.made c.args.self.now c.steps.self c.offer.new.self c.in_ok-value.value c.in-Some.ensures.items c.steps.invariant c.offer.ensures.table value

pub returns-in_err-made-clause-stays : goal.returns-in_err-made-clause-stays
returns-in_err-made-clause-stays g c =
    let P = presented g.F.Field.ops g.O.Order.order c.args.p.now in
    let S = values_of c.args.elements.now in
    let n = next_of P S c.args.w.now c.steps.steps.items c.pop.new.self.items c.in-Some.step c.steps.made c.args.self.now c.steps.self c.in-Some.ensures.items c.steps.invariant in
    let value = subst (λ u. IsWordValue P S u c.in_ok-value.value) n.step.split.whole_is c.in_ok-value.ensures in
    next_stays P S c.args.w.now c.steps.steps.items c.pop.new.self.items c.in-Some.step c.steps.made c.args.self.now c.steps.self c.offer.new.self c.in_ok-value.value c.in-Some.ensures.items c.steps.invariant c.offer.ensures.table value

pub steps-preserved-in_ok-made : goal.steps-preserved-in_ok-made
steps-preserved-in_ok-made g c =
    let P = presented g.F.Field.ops g.O.Order.order c.args.p.now in
    let S = values_of c.args.elements.now in
    let n = next_of P S c.args.w.now c.steps.steps.items c.pop.new.self.items c.in-Some.step c.steps.made c.args.self.now c.steps.self c.in-Some.ensures.items c.steps.invariant in
    let value = subst (λ u. IsWordValue P S u c.in_ok-value.value) n.step.split.whole_is c.in_ok-value.ensures in
    reach_next P S c.args.w.now c.steps.steps.items c.pop.new.self.items c.in-Some.step c.steps.made c.args.self.now c.steps.self c.offer.new.self c.in_ok-value.value c.in-Some.ensures.items c.steps.invariant c.offer.ensures.table value c.in_ok-made.made c.in_ok-made.ensures.ready c.in_ok-made.ensures.made

pub steps-preserved : goal.steps-preserved
steps-preserved g c =
    let P = presented g.F.Field.ops g.O.Order.order c.args.p.now in
    let S = values_of c.args.elements.now in
    let n = next_of P S c.args.w.now c.steps.steps.items c.pop.new.self.items c.in-Some.step c.steps.made c.args.self.now c.steps.self c.in-Some.ensures.items c.steps.invariant in
    let value = subst (λ u. IsWordValue P S u c.in_ok-value.value) n.step.split.whole_is c.in_ok-value.ensures in
    reach_next P S c.args.w.now c.steps.steps.items c.pop.new.self.items c.in-Some.step c.steps.made c.args.self.now c.steps.self c.offer.new.self c.in_ok-value.value c.in-Some.ensures.items c.steps.invariant c.offer.ensures.table value c.in_ok-made.made c.in_ok-made.ensures.ready c.in_ok-made.ensures.made
