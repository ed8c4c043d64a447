use Rattle.std.proofs.Common.{◌≡◌, ◌≤◌, ◌<◌, ◌-◌, ◌+◌, sym, subst, inl, inr, ⊎_elim, length, arith}
use Rattle.monomial_order.specs.Monomial.{product, variable}
use Rattle.polynomials.specs.Polynomial.{Same, times, IsCanonical, IsSmall}
use Rattle.poly_core.specs.Presentation.{presented}
use Rattle.witness.specs.Tracking.{values_of}
use Rattle.word_values.specs.Values.{IsWordValue, word_degree}
use Rattle.word_values.proofs.Multiplying.{element_is, product_graded, product_small, product_degree_to, product_value}
use Rattle.word_values.proofs.products.times_letter.Goals as goal

pub mul-requires-clause-a : goal.mul-requires-clause-a
mul-requires-clause-a g c =
    let P = presented g.F.Field.ops g.O.Order.order c.args.p.now in
    let S = values_of c.args.elements.now in
    let j = c.args.split.now.letter - P.order.places in
    let e : c.args.split.now.letter ≡ P.order.places + j = let f = c.requires.split.first in omega arith in
    let l : j < length S = let k = c.requires.split.last in omega arith in
    subst (IsCanonical P.field P.order) (sym (c.element-factor.ensures j e))
    (element_is P c.requires.presentation.presentation S c.requires.making.elements j l c.args.split.now.rest c.args.value.now c.requires.value).canonical

pub mul-requires-clause-small : goal.mul-requires-clause-small
mul-requires-clause-small g c =
    let P = presented g.F.Field.ops g.O.Order.order c.args.p.now in
    let S = values_of c.args.elements.now in
    let j = c.args.split.now.letter - P.order.places in
    let e : c.args.split.now.letter ≡ P.order.places + j = let f = c.requires.split.first in omega arith in
    let l : j < length S = let k = c.requires.split.last in omega arith in
    subst (λ s. IsSmall P.order (times P.field s c.args.value.now)) (sym (c.element-factor.ensures j e))
    (product_small P c.requires.presentation.presentation S c.requires.making.elements j l c.args.split.now.rest c.args.value.now c.requires.value
    (subst (λ i. word_degree P S (product (variable i) c.args.split.now.rest) ≤ 65535) e c.requires.making.small))

pub normal_form-requires-clause-degree : goal.normal_form-requires-clause-degree
normal_form-requires-clause-degree g c =
    let P = presented g.F.Field.ops g.O.Order.order c.args.p.now in
    let S = values_of c.args.elements.now in
    let j = c.args.split.now.letter - P.order.places in
    let e : c.args.split.now.letter ≡ P.order.places + j = let f = c.requires.split.first in omega arith in
    let l : j < length S = let k = c.requires.split.last in omega arith in
    let same = subst (λ s. Same P.field c.in_ok-product.product (times P.field s c.args.value.now)) (c.element-factor.ensures j e) c.in_ok-product.ensures.product in
    ⊎_elim
    (λ d. inl (product_degree_to P c.requires.presentation.presentation S c.requires.making.elements j l c.args.split.now.rest c.args.value.now c.requires.value
    c.in_ok-product.product same c.in_ok-product.ensures.canonical.decreasing c.args.q.now.degree
    (subst (λ i. word_degree P S (product (variable i) c.args.split.now.rest) ≤ c.args.q.now.degree) e d)))
    (λ z. inr z) c.requires.making.degree

pub is_normal-requires-clause-degree : goal.is_normal-requires-clause-degree
is_normal-requires-clause-degree g c =
    let P = presented g.F.Field.ops g.O.Order.order c.args.p.now in
    let S = values_of c.args.elements.now in
    let j = c.args.split.now.letter - P.order.places in
    let e : c.args.split.now.letter ≡ P.order.places + j = let f = c.requires.split.first in omega arith in
    let l : j < length S = let k = c.requires.split.last in omega arith in
    let same = subst (λ s. Same P.field c.in_ok-product.product (times P.field s c.args.value.now)) (c.element-factor.ensures j e) c.in_ok-product.ensures.product in
    ⊎_elim
    (λ d. inl (λ m k. subst (λ i. i ≤ c.args.q.now.degree)
    (sym (product_graded P c.requires.presentation.presentation S c.requires.making.elements j l c.args.split.now.rest c.args.value.now c.requires.value c.in_ok-product.product same m k))
    (subst (λ i. word_degree P S (product (variable i) c.args.split.now.rest) ≤ c.args.q.now.degree) e d)))
    (λ z. inr z) c.requires.making.degree

pub returns-then-is_normal : goal.returns-then-is_normal
returns-then-is_normal g c =
    let P = presented g.F.Field.ops g.O.Order.order c.args.p.now in
    let S = values_of c.args.elements.now in
    let j = c.args.split.now.letter - P.order.places in
    let e : c.args.split.now.letter ≡ P.order.places + j = let f = c.requires.split.first in omega arith in
    let l : j < length S = let k = c.requires.split.last in omega arith in
    let same = subst (λ s. Same P.field c.in_ok-product.product (times P.field s c.args.value.now)) (c.element-factor.ensures j e) c.in_ok-product.ensures.product in
    subst (λ i. IsWordValue P S (product (variable i) c.args.split.now.rest) c.in_ok-product.product) (sym e)
    (product_value P c.requires.presentation.presentation S c.requires.making.elements j l c.args.split.now.rest c.args.value.now c.requires.value
    c.in_ok-product.product same c.in_ok-product.ensures.canonical.decreasing c.in_ok-product.product c.in_ok-product.ensures.canonical (c.is_normal.ensures c.if-is_normal.true))

pub returns : goal.returns
returns g c =
    let P = presented g.F.Field.ops g.O.Order.order c.args.p.now in
    let S = values_of c.args.elements.now in
    let j = c.args.split.now.letter - P.order.places in
    let e : c.args.split.now.letter ≡ P.order.places + j = let f = c.requires.split.first in omega arith in
    let l : j < length S = let k = c.requires.split.last in omega arith in
    let same = subst (λ s. Same P.field c.in_ok-product.product (times P.field s c.args.value.now)) (c.element-factor.ensures j e) c.in_ok-product.ensures.product in
    subst (λ i. IsWordValue P S (product (variable i) c.args.split.now.rest) c.in_ok-next.next) (sym e)
    (product_value P c.requires.presentation.presentation S c.requires.making.elements j l c.args.split.now.rest c.args.value.now c.requires.value
    c.in_ok-product.product same c.in_ok-product.ensures.canonical.decreasing c.in_ok-next.next c.in_ok-next.ensures.canonical c.in_ok-next.ensures.normal)
