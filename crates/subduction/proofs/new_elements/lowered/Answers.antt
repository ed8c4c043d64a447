use Rattle.std.proofs.Common.{◌≡◌, ◌+◌, ◌-◌, length, sym, ◌∙◌, ap, subst, arith, true≢false}
use Rattle.poly_core.specs.Presentation.{presented}
use Rattle.monomial_order.specs.Monomial.{variable}
use Rattle.polynomials.specs.Polynomial.{coefficient, degree_of}
use Rattle.witness.specs.Tracking.{by_order, letter_poly, values_of, IsGradedPair}
use Rattle.subduction.specs.NewElements.{IsWitnessPut}
use Rattle.witness.specs.laws.Letters.{by_laws}
use Rattle.subduction.proofs.SettledBasis.{comparable, count_is}
use Rattle.subduction.proofs.NextElement.{last_degree, lowered_from, element_at, has_place, in_list, lowered_more, lowered_past, new_degree, value_at}
use Rattle.subduction.proofs.new_elements.lowered.Goals as goal

pub lower_count-count-requires : goal.lower_count-count-requires
lower_count-count-requires g c =
    let P = presented g.F.Field.ops g.O.Order.order c.args.p.now in
    let B = c.requires.basis in
    rw c.leads.ensures.same (rw c.words.ensures (comparable P c.requires.presentation.presentation c.args.b.now B B.parts.0 B.parts.1 B.parts.2))

pub elements-init : goal.elements-init
elements-init g c =
    let P = presented g.F.Field.ops g.O.Order.order c.args.p.now in
    let H = c.requires.presentation.presentation in
    let B = c.requires.basis in
    let p = B.parts in
    let leads = rw c.words.ensures at c.leads.ensures.same in
    let degree = rw c.words-2.ensures at c.degree.ensures in
    lowered_from P H c.args.b.now B p.0 p.1 p.2 c.args.t c.requires.element c.lower_count-count.result
    (count_is P H c.args.b.now B p.0 p.1 p.2 c.lower_count-count.result c.degree.result c.leads.result.now leads degree c.lower_count-count.ensures)

pub lacks_variable-requires-clause-canonical : goal.lacks_variable-requires-clause-canonical
lacks_variable-requires-clause-canonical g c = (by_order c.args.b.now.by_order, by_laws c.args.b.now.by_order, c.elements.invariant.canonical.by)

pub elements-preserved-then-branch : goal.elements-preserved-then-branch
elements-preserved-then-branch g c =
    let P = presented g.F.Field.ops g.O.Order.order c.args.p.now in
    let K = g.F.Field.ops c.args.p.now.field in
    let z = c.in_ok-lacks_variable.ensures.0 c.if-branch.true in
    let long : c.len.result ≡ length P.generators = let a = c.len.ensures in let b = c.args.p.now.generators.ok in omega arith in
    lowered_past P c.requires.presentation.presentation c.args.b.now c.requires.basis c.args.t c.elements.rest c.elements.i c.elements.invariant
    (ap (λ n. coefficient K c.elements.rest.by (variable (n + c.elements.i))) (sym long) ∙ z)

pub with_witness-requires-clause-t : goal.with_witness-requires-clause-t
with_witness-requires-clause-t g c = rw c.by_order.ensures c.elements.invariant.canonical

pub with_witness-requires-clause-s : goal.with_witness-requires-clause-s
with_witness-requires-clause-s g c =
    let P = presented g.F.Field.ops g.O.Order.order c.args.p.now in
    let H = c.requires.presentation.presentation in
    let l = rw c.elements-elements.ensures at c.elements-test.true in
    let e = rw c.elements-elements.ensures at c.index-elements-i.is in
    rw c.by_order.ensures (element_at P H c.args.b.now c.requires.basis c.elements.i c.index-elements-i.result l e).tracked.canonical

pub with_witness-requires-clause-letter : goal.with_witness-requires-clause-letter
with_witness-requires-clause-letter g c =
    let P = presented g.F.Field.ops g.O.Order.order c.args.p.now in
    let H = c.requires.presentation.presentation in
    let l = rw c.elements-elements.ensures at c.elements-test.true in
    let e = rw c.elements-elements.ensures at c.index-elements-i.is in
    rw c.by_order.ensures
    (c.in_ok-letter.ensures.canonical c.args.b.now.by_order
    (element_at P H c.args.b.now c.requires.basis c.elements.i c.index-elements-i.result l e).tracked.canonical.value
    (has_place P H c.args.b.now c.requires.basis c.elements.i c.index-elements-i.result l e))

pub with_witness-requires-clause-by : goal.with_witness-requires-clause-by
with_witness-requires-clause-by g c = (_, c.in_ok-letter.ensures.by)

pub elements-preserved : goal.elements-preserved
elements-preserved g c =
    let P = presented g.F.Field.ops g.O.Order.order c.args.p.now in
    let K = g.F.Field.ops c.args.p.now.field in
    let H = c.requires.presentation.presentation in
    let B = c.requires.basis in
    let b = c.args.b.now in
    let i = c.elements.i in
    let s = c.index-elements-i.result in
    let S = values_of b.elements in
    let l = rw c.elements-elements.ensures at c.elements-test.true in
    let e = rw c.elements-elements.ensures at c.index-elements-i.is in
    let h = element_at P H b B i s l e in
    let p = B.parts in
    let leads = rw c.words.ensures at c.leads.ensures.same in
    let degree = rw c.words-2.ensures at c.degree.ensures in
    let count = count_is P H b B p.0 p.1 p.2 c.lower_count-count.result c.degree.result c.leads.result.now leads degree c.lower_count-count.ensures in
    let last : degree_of P.order s.value ≡ b.words.degree = last_degree P H b B p.0 p.1 p.2 c.lower_count-count.result count i s (let a = c.elements.auto.i in omega arith) l e in
    let n = length P.generators in
    let long : c.len.result ≡ n = let a = c.len.ensures in let b = c.args.p.now.generators.ok in omega arith in
    let A = subst (λ x. IsWitnessPut P x c.elements.rest s c.in_ok-letter.letter c.in_ok-rest.rest) (ap by_order c.by_order.ensures) c.in_ok-rest.ensures in
    lowered_more P H b B c.args.t c.elements.rest i c.elements.invariant s c.in_ok-letter.letter c.in_ok-rest.rest l e last
    (c.in_ok-letter.ensures.by ∙ ap (λ k. letter_poly K (n + k)) (let z : i + 1 - 1 ≡ i = omega arith in z)) A
    (new_degree P H b B c.args.t c.requires.element)
    (λ z. true≢false (sym (c.in_ok-lacks_variable.ensures.1 (ap (λ k. coefficient K c.elements.rest.by (variable (k + i))) long ∙ z)) ∙ c.if-branch.false))
    (c.in_ok-letter.ensures.tracks S (in_list P H b B i s l e) (value_at P H b B i s l e))
    (subst (λ k. IsGradedPair K P.order (by_order b.by_order) k c.in_ok-letter.letter) last
    (c.in_ok-letter.ensures.graded S b.by_order B.by_order (in_list P H b B i s l e) (value_at P H b B i s l e) h.tracked.graded.value))
