use Rattle.std.proofs.Common.{◌≡◌, [], List, ℕ, true, take, sym, ◌∙◌, ap, subst, arith}
use Rattle.std.proofs.lemmas.List.{take_all}
use Rattle.monomial_order.specs.Ranges.{all_between}
use Rattle.poly_core.specs.Presentation.{presented}
use Rattle.toric_ideal.specs.Leads.{letters}
use Rattle.subduction.specs.Cutting.{IsFront}
use Rattle.subduction.proofs.CutBases.{is_here, low_here, next_here, rising_here, take_here}
use Rattle.subduction.proofs.Growing.{first_basis}
use Rattle.subduction.proofs.IdealLeads.{small_variables}
use Rattle.subduction.proofs.cutting.words_over.Goals as goal

pub new-requires : goal.new-requires
new-requires g c =
    let O = g.O.Order.order c.args.p.now.order in
    subst (λ (ds : List ℕ). all_between 1 30000 ds ≡ true) (sym (c.as_slice.ensures.value ∙ c.in_ok-degrees.ensures))
    (small_variables O (g.met.O.Order.laws c.args.p.now.order) (g.met.O.Order.small c.args.p.now.order) O.places (omega arith))

pub elements-init : goal.elements-init
elements-init g c =
    let P = presented g.F.Field.ops g.O.Order.order c.args.p.now in
    record {
      front = first_basis P c.requires.presentation.presentation c.args.q.now c.in_ok-words.words c.in_ok-places.places c.requires.quotient c.words_are_listed.ensures
          (c.in_ok-words.ensures.letters ∙ ap (λ ds. letters ds []) (c.as_slice.ensures.value ∙ c.in_ok-degrees.ensures))
          c.in_ok-words.ensures.zeros c.in_ok-words.ensures.degree
          (c.in_ok-places.ensures.x ∙ c.requires.presentation.no_x) (c.in_ok-places.ensures.s ∙ c.requires.presentation.degrees);
      low = λ u k. let z = c.in_ok-words.ensures.degree in omega arith;
    }

pub take_up-requires-clause-next : goal.take_up-requires-clause-next
take_up-requires-clause-next g c =
    let P = presented g.F.Field.ops g.O.Order.order c.args.p.now in (
      take c.elements.t-index c.args.kept.now,
      c.elements.invariant.front,
      next_here P c.requires.presentation.presentation c.args.d c.args.kept.now c.requires.next c.elements.t-index c.t-item.result c.elements-test.true c.t-item.is,
    )

pub take_up-requires-clause-from : goal.take_up-requires-clause-from
take_up-requires-clause-from g c =
    let P = presented g.F.Field.ops g.O.Order.order c.args.p.now in
    c.elements.invariant.low c.t-item.result
    (is_here P c.requires.presentation.presentation c.args.d c.args.kept.now c.requires.next c.elements.t-index c.t-item.result c.elements-test.true c.t-item.is)

pub take_up-requires-clause-to : goal.take_up-requires-clause-to
take_up-requires-clause-to g c =
    let P = presented g.F.Field.ops g.O.Order.order c.args.p.now in
    let l = low_here P c.requires.presentation.presentation c.args.d c.args.kept.now c.requires.next c.elements.t-index c.t-item.result c.elements-test.true c.t-item.is in
    let e = c.requires.degree in omega arith

pub elements-preserved : goal.elements-preserved
elements-preserved g c =
    let P = presented g.F.Field.ops g.O.Order.order c.args.p.now in
    let H = c.requires.presentation.presentation in
    let i = c.elements.t-index in
    let ts = c.args.kept.now in
    let t = c.t-item.result in
    let N = next_here P H c.args.d ts c.requires.next i t c.elements-test.true c.t-item.is in
    record {
      front = subst (IsFront P c.args.q.now c.take_up.new.words c.take_up.new.places) (sym (take_here ts i t c.elements-test.true c.t-item.is))
          (c.in_ok-take_up.ensures.front (take i ts) c.elements.invariant.front N);
      low = λ u k. let r = rising_here P H c.args.d ts c.requires.next i t c.elements-test.true c.t-item.is u k in let d = c.in_ok-take_up.ensures.degree in omega arith;
    }

pub list_words-requires-clause-front : goal.list_words-requires-clause-front
list_words-requires-clause-front g c = (c.elements.places, take c.elements.t-index c.args.kept.now, c.elements.invariant.front)

pub returns-clause-front : goal.returns-clause-front
returns-clause-front g c =
    let P = presented g.F.Field.ops g.O.Order.order c.args.p.now in
    let whole : take c.elements.t-index c.args.kept.now ≡ c.args.kept.now = take_all c.elements.t-index c.args.kept.now (let t = c.elements-test.false in omega (arith, t)) in
    subst (IsFront P c.args.q.now c.list_words.new.words c.elements.places) whole
    (c.in_ok-list_words.ensures.front c.elements.places (take c.elements.t-index c.args.kept.now) c.elements.invariant.front)

pub returns-clause-degree : goal.returns-clause-degree
returns-clause-degree g c =
    let e = c.in_ok-list_words.ensures.degree in let l = c.elements.invariant.front.degree in let q = c.requires.degree in omega arith
