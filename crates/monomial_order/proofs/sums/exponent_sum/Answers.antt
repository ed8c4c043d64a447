use Rattle.std.proofs.Common.{arith}
use Rattle.std.proofs.lemmas.List.Sums.{sum_by-drop_more}
use Rattle.monomial_order.proofs.sums.exponent_sum.Goals as goal

pub overflow_add-sum : goal.overflow_add-sum
overflow_add-sum c = let s = sum_by-drop_more (λ y. y) c.args.exponents.now c.loop-exponent.exponent-index 0 (omega arith) in omega arith

pub loop-exponent-preserved : goal.loop-exponent-preserved
loop-exponent-preserved c = let s = sum_by-drop_more (λ y. y) c.args.exponents.now c.loop-exponent.exponent-index 0 (omega arith) in omega arith
