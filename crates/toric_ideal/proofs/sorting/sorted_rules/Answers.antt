use Rattle.std.proofs.Common.{◌≡◌, length, subst, arith}
use Rattle.toric_ideal.specs.SortedRules.{AreSortedRules}
use Rattle.toric_ideal.proofs.RuleLists.{sorted_next, sorted_small}
use Rattle.toric_ideal.proofs.sorting.sorted_rules.Goals as goal

pub insert-requires-clause-small : goal.insert-requires-clause-small
insert-requires-clause-small g c =
    let e = c.len-i-end.ensures in let t = c.rules-test.true in
    sorted_small (g.O.Order.order c.args.o.now) (g.met.O.Order.laws c.args.o.now) c.args.table.now c.args.first c.rules.i c.rules.rules.items (λ k l. c.requires.small k (omega arith)) c.rules.invariant

pub rules-preserved : goal.rules-preserved
rules-preserved g c =
    sorted_next (g.O.Order.order c.args.o.now) (g.met.O.Order.laws c.args.o.now) c.args.table.now c.args.first c.rules.i c.rules.rules.items c.insert.new.rules.items c.in_ok-copied.field-0 (omega (arith, c.rules.auto)) c.in_ok-copied.ensures c.rules.invariant c.in_ok-insert.ensures

pub returns : goal.returns
returns g c =
    subst (λ n. AreSortedRules (g.O.Order.order c.args.o.now) c.args.table.now c.args.first n c.rules.rules.items)
    (let e : c.rules.i ≡ length c.args.table.now = omega (arith, c.rules-test.false, c.len-i-end.ensures, c.rules.auto, c.requires.within) in e) c.rules.invariant
