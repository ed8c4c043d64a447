use Rattle.std.proofs.Common.{arith}
use Rattle.monomial_order.proofs.Degrees.{weighted_step, weighted_end}
use Rattle.monomial_order.proofs.sums.weighted_sum.Goals as goal

pub overflow_mul-sum : goal.overflow_mul-sum
overflow_mul-sum c = let s = weighted_step c.args.weights.now c.args.exponents.now c.loop-i.i (omega arith) in omega arith

pub overflow_add-sum : goal.overflow_add-sum
overflow_add-sum c = let s = weighted_step c.args.weights.now c.args.exponents.now c.loop-i.i (omega arith) in omega arith

pub loop-i-preserved : goal.loop-i-preserved
loop-i-preserved c = let s = weighted_step c.args.weights.now c.args.exponents.now c.loop-i.i (omega arith) in omega arith

pub returns : goal.returns
returns c = let e = weighted_end c.args.weights.now c.args.exponents.now c.loop-i.i (omega arith) in omega arith
