use Rattle.std.proofs.Common.{◌≤◌, sym, [], arith}
use Rattle.std.specs.Prelude.{All}
use Rattle.std.proofs.lemmas.List.Elements.{All-from_get_or}
use Rattle.monomial_order.proofs.FaultLemmas.{above_first, heavy_first}
use Rattle.monomial_order.proofs.order_fault.find_heavy.Goals as goal

pub returns-in-Some-clause-some : goal.returns-in-Some-clause-some
returns-in-Some-clause-some c = above_first 64 c.args.weights.now c.in-Some.i (sym c.in-Some.ensures.first)

pub returns-in-Some-first_above-clause-some : goal.returns-in-Some-first_above-clause-some
returns-in-Some-first_above-clause-some c =
    heavy_first c.args.weights.now c.args.rows.now c.loop-r.r c.index-rows-r.result c.entries.result.now c.in-Some-first_above.i c.loop-r.invariant.weights_light c.loop-r.invariant.rows_light
    (omega arith) c.index-rows-r.is c.entries.ensures (sym c.in-Some-first_above.ensures.first)

pub returns-clause-none : goal.returns-clause-none
returns-clause-none c = record {
  weights_light = c.loop-r.invariant.weights_light;
  rows_light = All-from_get_or (All (λ e. e ≤ 1000)) c.args.rows.now [] (λ k l. c.loop-r.invariant.rows_light k (omega arith));
}
