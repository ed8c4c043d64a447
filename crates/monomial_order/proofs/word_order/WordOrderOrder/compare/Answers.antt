use Rattle.std.proofs.Common.{◌≡◌, ◌<◌, ◌≤◌, ◌^◌, ◌++◌, ℕ, List, sym, subst, arith}
use Rattle.monomial_order.specs.Monomial.{weighted_degree}
use Rattle.monomial_order.proofs.Halves.{weighted_degree-append}
use Rattle.monomial_order.proofs.word_order.WordOrderOrder.compare.Goals as goal

-- the part of x has at most the degree
x_fits : (xs ss m exponents : List ℕ) → exponents ≡ m → weighted_degree (xs ++ ss) m ≤ 65535 → weighted_degree xs exponents < 2 ^ 32
x_fits xs ss m exponents e h = let p = weighted_degree-append xs ss m in subst (λ k. weighted_degree xs k < 2 ^ 32) (sym e) (omega arith)

pub compare_within_degree-requires-clause-left : goal.compare_within_degree-requires-clause-left
compare_within_degree-requires-clause-left c = x_fits c.args.self.now.x_degrees.items c.args.self.now.s_degrees.items c.args.a.now c.as_slice.result.now c.as_slice.ensures.same c.requires.left_degree

pub compare_within_degree-requires-clause-right : goal.compare_within_degree-requires-clause-right
compare_within_degree-requires-clause-right c = x_fits c.args.self.now.x_degrees.items c.args.self.now.s_degrees.items c.args.b.now c.as_slice-2.result.now c.as_slice-2.ensures.same c.requires.right_degree
