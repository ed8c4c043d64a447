use Rattle.std.proofs.Common.{◌≡◌, ◌<◌, ◌^◌, true, ℕ, List, length, sum, take, ap, ◌∙◌, subst, sym, arith}
use Rattle.monomial_order.specs.Monomial.{weighted_degree}
use Rattle.monomial_order.specs.Ranges.{all_between}
use Rattle.monomial_order.specs.laws.Orders.{positive_weights}
use Rattle.monomial_order.proofs.Halves.{sum_at_most}
use Rattle.monomial_order.proofs.word_order.WordOrder.compare_within_degree.Goals as goal

-- the exponents of x sum to at most the degree
x_fits : (xs slice m part : List ℕ) → all_between 1 30000 xs ≡ true → slice ≡ xs → part ≡ take (length slice) m → weighted_degree xs m < 2 ^ 32 → sum part < 2 ^ 32
x_fits xs slice m part h e p small =
    let bound = sum_at_most xs m (positive_weights 1 30000 xs (omega arith) h) in
    subst (λ l. sum l < 2 ^ 32) (sym (p ∙ ap (λ ys. take (length ys) m) e)) (omega arith)

pub exponent_sum-requires : goal.exponent_sum-requires
exponent_sum-requires c =
    x_fits c.args.self.now.x_degrees.items c.as_slice-x_count.result.now c.args.a.now c.split_places.result.0.now c.args.self.now.x_in_range c.as_slice-x_count.ensures.value c.split_places.ensures.first c.requires.left

pub exponent_sum-requires-2 : goal.exponent_sum-requires-2
exponent_sum-requires-2 c =
    x_fits c.args.self.now.x_degrees.items c.as_slice-x_count.result.now c.args.b.now c.split_places-2.result.0.now c.args.self.now.x_in_range c.as_slice-x_count.ensures.value c.split_places-2.ensures.first c.requires.right
