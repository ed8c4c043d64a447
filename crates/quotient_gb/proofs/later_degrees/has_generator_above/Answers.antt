use Rattle.std.proofs.Common.{◌≡◌, ◌<◌, ◌≤◌, sym, ◌∙◌, ap, subst, ℕ, [], length, get_or, arith}
use Rattle.std.specs.Prelude.{Contains}
use borrow.Author.Count.{below_more}
use Rattle.polynomials.specs.Polynomial.{IsHomogeneous}
use Rattle.poly_core.specs.Presentation.{presented}
use Rattle.quotient_gb.proofs.EveryDegree.{generator_above, generator_not_above}
use Rattle.quotient_gb.proofs.Places.{at_default, below_stop}
use Rattle.quotient_gb.proofs.Representations.{canonical_generator}
use Rattle.quotient_gb.proofs.later_degrees.has_generator_above.Goals as goal

pub generators-init : goal.generators-init
generators-init g c = λ k l. absurd (none k l)
  where
    none : (k : ℕ) → k < 0 → ⊥
    none k l = omega arith

pub is_above-requires : goal.is_above-requires
is_above-requires g c =
    let P = presented g.F.Field.ops g.O.Order.order c.args.p.now in
    let rs = c.args.p.now.ideal.items in
    let r = c.r-item.result in
    (c.args.p.now.field, (canonical_generator P.field P.order rs c.requires.ideal r (subst (λ xs. Contains xs r) c.deref-r-items.ensures.value (c.generators.r-index, c.generators-test.true, sym c.r-item.is))).canonical)

pub returns-then-is_above-clause-yes : goal.returns-then-is_above-clause-yes
returns-then-is_above-clause-yes g c = λ t.
    let P = presented g.F.Field.ops g.O.Order.order c.args.p.now in
    let rs = c.args.p.now.ideal.items in
    let r = c.r-item.result in
    let hr : Contains rs r = subst (λ xs. Contains xs r) c.deref-r-items.ensures.value (c.generators.r-index, c.generators-test.true, sym c.r-item.is) in
    generator_above P c.requires.presentation r hr (canonical_generator P.field P.order rs c.requires.ideal r hr) c.args.d (c.is_above.ensures.yes c.if-is_above.true)

pub generators-preserved : goal.generators-preserved
generators-preserved g c =
    let P = presented g.F.Field.ops g.O.Order.order c.args.p.now in
    let rs = c.args.p.now.ideal.items in
    let r = c.r-item.result in
    let hr : Contains rs r = subst (λ xs. Contains xs r) c.deref-r-items.ensures.value (c.generators.r-index, c.generators-test.true, sym c.r-item.is) in
    let here : get_or rs c.generators.r-index [] ≡ r =
    ap (λ xs. get_or xs c.generators.r-index []) (sym c.deref-r-items.ensures.value) ∙ at_default c.deref-r-items.result.now c.generators.r-index r [] c.generators-test.true (sym c.r-item.is) in
    below_more (λ k. (e : ℕ) → IsHomogeneous P.field P.order e (get_or rs k []) → e ≤ c.args.d) c.generators.r-index c.generators.invariant
    (λ e h. generator_not_above P c.requires.presentation r (canonical_generator P.field P.order rs c.requires.ideal r hr).canonical.decreasing c.args.d (c.is_above.ensures.no c.if-is_above.false) e
    (subst (IsHomogeneous P.field P.order e) here h))

pub returns-clause-no : goal.returns-clause-no
returns-clause-no g c = λ t r hr e h.
    let P = presented g.F.Field.ops g.O.Order.order c.args.p.now in
    let rs = c.args.p.now.ideal.items in
    c.generators.invariant hr.0 (below_stop hr.0 (length rs) c.generators.r-index hr.1 (subst (λ xs. length xs ≤ c.generators.r-index) c.deref-r-items.ensures.value c.generators-test.false)) e
    (subst (IsHomogeneous P.field P.order e) (sym (at_default rs hr.0 r [] hr.1 hr.2)) h)
