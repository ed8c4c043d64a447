use Rattle.std.proofs.Common.{◌≡◌, ◌+◌, suc, sym, subst, arith}
use Rattle.toric_ideal.specs.Increasing.{IsInserted}
use Rattle.toric_ideal.proofs.Members.{contains_take}
use Rattle.toric_ideal.proofs.IncreasingLists.{sorted_end, sorted_next, IsSortedSoFar}
use Rattle.toric_ideal.proofs.increasing.sorted.Goals as goal

pub insert-requires-clause-comparable : goal.insert-requires-clause-comparable
insert-requires-clause-comparable g c m h = c.requires m (contains_take c.args.list.now c.list.m-index m (c.list.invariant.only m h))

pub list-preserved : goal.list-preserved
list-preserved g c =
    let O = g.O.Order.order c.args.o.now in
    subst (λ i. IsSortedSoFar O c.args.list.now i c.insert.new.list.items) (let e : suc c.list.m-index ≡ c.list.m-index + 1 = omega arith in e)
    (sorted_next O c.args.list.now c.list.m-index c.list.increasing.items c.insert.new.list.items c.m-item.result c.list-test.true (sym c.m-item.is) c.list.invariant
    (subst (IsInserted O c.list.increasing.items c.insert.new.list.items) c.in_ok-copy.ensures.same c.in_ok-insert.ensures))

pub returns : goal.returns
returns g c = sorted_end (g.O.Order.order c.args.o.now) c.args.list.now c.list.m-index c.list.increasing.items c.list-test.false (let a = c.list.auto.m-index-end in omega arith) c.list.invariant
