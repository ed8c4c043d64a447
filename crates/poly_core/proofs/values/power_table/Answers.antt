use Rattle.std.proofs.Common.{arith}
use Rattle.poly_core.proofs.Evaluating.{place_degrees}
use Rattle.poly_core.proofs.values.power_table.Goals as goal

pub powers_at-requires-clause-small : goal.powers_at-requires-clause-small
powers_at-requires-clause-small g c =
    place_degrees (g.O.Order.order c.args.o.now) c.args.h.now c.args.at.now c.loop-place.place c.index-at-place.result c.requires.small c.loop-place-test.true c.index-at-place.is

pub returns-clause-reached : goal.returns-clause-reached
returns-clause-reached g c k d l i li = c.loop-place.invariant.reached i (let n = c.loop-place.invariant.rows in omega arith) k d l
