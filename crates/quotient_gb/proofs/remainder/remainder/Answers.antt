use Rattle.std.proofs.Common.{◌++◌, ◌∷◌, refl, sym, subst}
use Rattle.polynomials.specs.laws.Lowering.{height_less, height_rest}
use Rattle.linked_terms.specs.laws.Popping.{popped}
use Rattle.poly_core.specs.Presentation.{presented}
use Rattle.quotient_gb.specs.Remainder.{IsRemainderIn}
use Rattle.quotient_gb.proofs.Remainders.{start, work_is_canonical, after_reduction, after_move, finished}
use Rattle.quotient_gb.proofs.remainder.remainder.Goals as goal

pub reduce-init : goal.reduce-init
reduce-init g c =
    let P = presented g.F.Field.ops g.O.Order.order c.args.p.now in
    let G = c.args.before.now.members.items ++ c.args.found.now.members.items in
    rw (c.in_ok-reserve.ensures.items, c.new-done.ensures.items, c.in_ok-work.ensures) (start P c.requires.presentation G c.requires.reducers c.args.a.now c.requires.a)

pub cancel-requires-clause-work : goal.cancel-requires-clause-work
cancel-requires-clause-work g c =
    let P = presented g.F.Field.ops g.O.Order.order c.args.p.now in
    let G = c.args.before.now.members.items ++ c.args.found.now.members.items in
    work_is_canonical P c.requires.presentation G c.requires.reducers c.args.a.now c.reduce.done.items (c.in-Some.term ∷ c.pop_lead.new.self.terms)
    (rw (popped c.reduce.work c.pop_lead.new.self c.in-Some.term c.in-Some.ensures) at c.reduce.invariant)

pub reduce-smaller-in_default-find_reducer : goal.reduce-smaller-in_default-find_reducer
reduce-smaller-in_default-find_reducer g c =
    let P = presented g.F.Field.ops g.O.Order.order c.args.p.now in
    let G = c.args.before.now.members.items ++ c.args.found.now.members.items in
    rw (popped c.reduce.work c.pop_lead.new.self c.in-Some.term c.in-Some.ensures) (height_rest (g.F.Field.ops c.args.p.now.field) (g.O.Order.order c.args.p.now.order) (g.met.O.Order.laws c.args.p.now.order) c.in-Some.term c.pop_lead.new.self.terms
    (work_is_canonical P c.requires.presentation G c.requires.reducers c.args.a.now c.reduce.done.items (c.in-Some.term ∷ c.pop_lead.new.self.terms) (rw (popped c.reduce.work c.pop_lead.new.self c.in-Some.term c.in-Some.ensures) at c.reduce.invariant)))

pub reduce-preserved-in_default-find_reducer : goal.reduce-preserved-in_default-find_reducer
reduce-preserved-in_default-find_reducer g c =
    let P = presented g.F.Field.ops g.O.Order.order c.args.p.now in
    let G = c.args.before.now.members.items ++ c.args.found.now.members.items in
    rw c.in_ok-push.ensures.items (after_move P c.requires.presentation G c.requires.reducers c.args.a.now c.reduce.done.items c.in-Some.term c.pop_lead.new.self.terms
    (rw (popped c.reduce.work c.pop_lead.new.self c.in-Some.term c.in-Some.ensures) at c.reduce.invariant) (c.in_default-find_reducer.ensures.none refl))

pub reduce-smaller : goal.reduce-smaller
reduce-smaller g c =
    rw (popped c.reduce.work c.pop_lead.new.self c.in-Some.term c.in-Some.ensures) (height_less (g.F.Field.ops c.args.p.now.field) (g.O.Order.order c.args.p.now.order) (g.met.O.Order.laws c.args.p.now.order) c.in-Some.term c.pop_lead.new.self.terms c.cancel.new.work.terms c.in_ok-cancel.ensures.canonical c.in_ok-cancel.ensures.below)

pub reduce-preserved : goal.reduce-preserved
reduce-preserved g c =
    let P = presented g.F.Field.ops g.O.Order.order c.args.p.now in
    let G = c.args.before.now.members.items ++ c.args.found.now.members.items in
    after_reduction P c.requires.presentation G c.requires.reducers c.args.a.now c.reduce.done.items c.in-Some.term c.pop_lead.new.self.terms c.in-Some-find_reducer.g.now c.cancel.new.work.terms
    (rw (popped c.reduce.work c.pop_lead.new.self c.in-Some.term c.in-Some.ensures) at c.reduce.invariant) c.in-Some-find_reducer.ensures.member c.in_ok-cancel.ensures

pub returns : goal.returns
returns g c =
    let P = presented g.F.Field.ops g.O.Order.order c.args.p.now in
    let G = c.args.before.now.members.items ++ c.args.found.now.members.items in
    subst (IsRemainderIn P G c.args.a.now) (sym c.from_falling.ensures) (finished P c.requires.presentation G c.requires.reducers c.args.a.now c.reduce.done.items (rw c.in_default.ensures.0 at c.reduce.invariant))
