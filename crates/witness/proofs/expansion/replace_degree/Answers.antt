use Rattle.std.proofs.Common.{◌≡◌, ◌≤◌, length, subst, sym, ◌∙◌, ap, arith}
use Rattle.std.specs.Prelude.{All}
use Rattle.std.proofs.lemmas.List.{length-map}
use Rattle.monomial_order.specs.MonomialOrder.{MonomialOrder}
use Rattle.polynomials.specs.Polynomial.{coefficient, IsPoly, IsCanonical}
use Rattle.polynomials.specs.Value.{value, HasSmallValue}
use Rattle.polynomials.specs.laws.Decreasing.{IsDecreasing_IsPoly}
use Rattle.polynomials.specs.laws.Degrees.{decreasing_all}
use Rattle.poly_core.specs.Presentation.{presented}
use Rattle.witness.specs.Tracking.{by_order, values_of}
use Rattle.witness.specs.laws.Letters.{by_laws, by_places}
use Rattle.witness.specs.laws.Members.{element_polys}
use Rattle.witness.proofs.Replacing.{all_canonical, small_value, replaced_lower, is_replaced}
use Rattle.witness.proofs.expansion.replace_degree.Goals as goal

pub evaluate-requires-clause-h : goal.evaluate-requires-clause-h
evaluate-requires-clause-h g c =
    let P = presented g.F.Field.ops g.O.Order.order c.args.p.now in
    let a = by_places P (values_of c.args.s.now) c.args.w.now c.requires.order in
    let n = length-map c.args.s.now (λ t. t.value) in
    let b = c.in_ok-at.ensures.length in
    let d = ap length c.as_slice.ensures.value in
    subst (λ n. IsPoly P.field n c.args.e.now) (let W : MonomialOrder = by_order c.args.w.now in let e : W.places ≡ length c.as_slice.result.now = omega arith in e)
    (IsDecreasing_IsPoly P.field (by_order c.args.w.now) c.args.e.now c.requires.canonical.decreasing)

pub evaluate-requires-clause-at : goal.evaluate-requires-clause-at
evaluate-requires-clause-at g c =
    let P = presented g.F.Field.ops g.O.Order.order c.args.p.now in
    let S = values_of c.args.s.now in
    let n = length-map c.args.s.now (λ t. t.value) in
    let b = c.in_ok-at.ensures.length in
    subst (All (IsCanonical P.field (by_order c.args.w.now))) (sym c.as_slice.ensures.value)
    (all_canonical P c.requires.valid.presentation S c.args.w.now c.requires.order c.args.degree c.in_ok-at.at.items (omega arith) c.in_ok-at.ensures.each)

pub evaluate-requires-clause-small : goal.evaluate-requires-clause-small
evaluate-requires-clause-small g c =
    let P = presented g.F.Field.ops g.O.Order.order c.args.p.now in
    let S = values_of c.args.s.now in
    let n = length-map c.args.s.now (λ t. t.value) in
    let b = c.in_ok-at.ensures.length in
    let W : MonomialOrder = by_order c.args.w.now in
    subst (λ at. HasSmallValue W at c.args.e.now) (sym c.as_slice.ensures.value)
    (small_value P c.requires.valid.presentation S c.args.w.now c.requires.order c.args.degree c.in_ok-at.at.items (omega arith) c.in_ok-at.ensures.each c.args.e.now
    (decreasing_all P.field c.requires.valid.presentation.field W (by_laws c.args.w.now) (λ m. W.degree m ≤ 30000) c.args.e.now c.requires.canonical.decreasing c.requires.small))

pub returns-clause-replaced : goal.returns-clause-replaced
returns-clause-replaced g c =
    let P = presented g.F.Field.ops g.O.Order.order c.args.p.now in
    let S = values_of c.args.s.now in
    let n = length-map c.args.s.now (λ t. t.value) in
    let b = c.in_ok-at.ensures.length in
    let H = c.requires.valid.presentation in
    is_replaced P H S c.args.w.now c.requires.order c.args.degree c.in_ok-at.at.items (omega arith) c.in_ok-at.ensures.each c.args.e.now c.in_ok-replaced.replaced
    c.requires.canonical c.in_ok-replaced.ensures.canonical (λ m. c.in_ok-replaced.ensures.value m ∙ ap (λ at. coefficient P.field (value P.field c.args.e.now at) m) c.as_slice.ensures.value)
    (element_polys P (by_order c.args.w.now) c.args.s.now c.requires.elements) (c.compositions.ensures.values P H) (c.compositions.ensures.congruent P H)

pub returns-clause-lower : goal.returns-clause-lower
returns-clause-lower g c =
    let P = presented g.F.Field.ops g.O.Order.order c.args.p.now in
    let S = values_of c.args.s.now in
    let n = length-map c.args.s.now (λ t. t.value) in
    let b = c.in_ok-at.ensures.length in
    let H = c.requires.valid.presentation in
    replaced_lower P H S c.args.w.now c.requires.order c.args.degree c.in_ok-at.at.items (omega arith) c.in_ok-at.ensures.each c.args.e.now c.in_ok-replaced.replaced
    c.requires.canonical c.in_ok-replaced.ensures.canonical (λ m. c.in_ok-replaced.ensures.value m ∙ ap (λ at. coefficient P.field (value P.field c.args.e.now at) m) c.as_slice.ensures.value)
    c.requires.greatest
