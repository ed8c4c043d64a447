use Rattle.std.proofs.Common.{◌≡◌, ◌+◌, ◌<◌, ◌^◌, ◌++◌, ℕ, List, length, drop, ◌∙◌, ap, sym, subst, arith}
use Rattle.monomial_order.specs.Monomial.{weighted_degree}
use Rattle.monomial_order.proofs.Halves.{weighted_degree-append}
use Rattle.monomial_order.proofs.word_order.WordOrderOrder.degree.Goals as goal

-- the two parts of the degree
parts : (xs ss m exponents rest x_slice : List ℕ) → x_slice ≡ xs → exponents ≡ m → rest ≡ drop (length x_slice) exponents →
    weighted_degree (xs ++ ss) m ≡ weighted_degree x_slice exponents + weighted_degree ss rest
parts xs ss m exponents rest x_slice ex em er =
    weighted_degree-append xs ss m ∙
    (ap (λ ys. weighted_degree ys m + weighted_degree ss (drop (length ys) m)) (sym ex) ∙
    (ap (λ n. weighted_degree x_slice n + weighted_degree ss (drop (length x_slice) n)) (sym em) ∙ ap (λ r. weighted_degree x_slice exponents + weighted_degree ss r) (sym er)))

pub weighted_sum-requires : goal.weighted_sum-requires
weighted_sum-requires c =
    let p = parts c.args.self.now.x_degrees.items c.args.self.now.s_degrees.items c.args.m.now c.as_slice-exponents.result.now c.split_places.result.1.now c.as_slice-x_degrees.result.now
    c.as_slice-x_degrees.ensures.value c.as_slice-exponents.ensures.same c.split_places.ensures.rest in omega arith

pub weighted_sum-requires-2 : goal.weighted_sum-requires-2
weighted_sum-requires-2 c =
    let p = parts c.args.self.now.x_degrees.items c.args.self.now.s_degrees.items c.args.m.now c.as_slice-exponents.result.now c.split_places.result.1.now c.as_slice-x_degrees.result.now
    c.as_slice-x_degrees.ensures.value c.as_slice-exponents.ensures.same c.split_places.ensures.rest in
    subst (λ ss. weighted_degree ss c.split_places.result.1.now < 2 ^ 32) (sym c.as_slice.ensures.value) (omega arith)

pub overflow_add-result : goal.overflow_add-result
overflow_add-result c =
    let p = parts c.args.self.now.x_degrees.items c.args.self.now.s_degrees.items c.args.m.now c.as_slice-exponents.result.now c.split_places.result.1.now c.as_slice-x_degrees.result.now
    c.as_slice-x_degrees.ensures.value c.as_slice-exponents.ensures.same c.split_places.ensures.rest in
    let s = ap (λ ss. weighted_degree ss c.split_places.result.1.now) c.as_slice.ensures.value in
    omega arith

pub returns : goal.returns
returns c =
    let p = parts c.args.self.now.x_degrees.items c.args.self.now.s_degrees.items c.args.m.now c.as_slice-exponents.result.now c.split_places.result.1.now c.as_slice-x_degrees.result.now
    c.as_slice-x_degrees.ensures.value c.as_slice-exponents.ensures.same c.split_places.ensures.rest in
    let s = ap (λ ss. weighted_degree ss c.split_places.result.1.now) c.as_slice.ensures.value in
    omega arith
