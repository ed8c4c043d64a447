use Rattle.std.proofs.Common.{◌≡◌, ◌<◌, ◌≤◌, ◌+◌, refl, sym, ◌∙◌, ap, subst, ℕ, [], length, get_or, arith}
use Rattle.std.specs.Prelude.{Contains}
use borrow.Author.Count.{below_more}
use Rattle.polynomials.specs.Polynomial.{IsHomogeneous}
use Rattle.poly_core.specs.Presentation.{presented}
use Rattle.quotient_gb.specs.Combinations.{HasStandardRepresentation}
use Rattle.quotient_gb.specs.DegreeStep.{all_members, IsLaterStep}
use Rattle.quotient_gb.proofs.Complete.{generator_inside}
use Rattle.quotient_gb.proofs.Places.{not_below_zero, at_default, below_stop}
use Rattle.quotient_gb.proofs.Representations.{canonical_generator, represented_more, homogeneous_degree}
use Rattle.quotient_gb.proofs.Steps.{later_itself, later_chain, part_all}
use Rattle.quotient_gb.proofs.degree_step.DegreeStep.add_generators.Goals as goal
use Rattle.quotient_gb.proofs.degree_step.DegreeStep.add_generators.Goals.{then-has_degree+in_ok-reduce_and_insert, else-has_degree}

pub generators-init : goal.generators-init
generators-init g c = record {
  later = later_itself (presented g.F.Field.ops g.O.Order.order c.args.p.now) c.requires.step.presentation c.args.before.now c.args.self.now c.requires.step;
  reduces = λ k l. absurd (not_below_zero k l);
}

pub has_degree-requires : goal.has_degree-requires
has_degree-requires g c =
    let P = presented g.F.Field.ops g.O.Order.order c.args.p.now in
    let rs = c.args.p.now.ideal.items in
    let r = c.r-item.result in
    (c.args.p.now.field, (canonical_generator P.field P.order rs c.requires.ideal r (subst (λ xs. Contains xs r) c.deref-r-items.ensures.value (c.generators.r-index, c.generators-test.true, sym c.r-item.is))).canonical)

pub reduce_and_insert-requires : goal.reduce_and_insert-requires
reduce_and_insert-requires g c =
    let P = presented g.F.Field.ops g.O.Order.order c.args.p.now in
    let H = c.requires.step.presentation in
    let rs = c.args.p.now.ideal.items in
    let r = c.r-item.result in
    let hr : Contains rs r = subst (λ xs. Contains xs r) c.deref-r-items.ensures.value (c.generators.r-index, c.generators-test.true, sym c.r-item.is) in
    record {
      step = c.generators.invariant.later.step;
      canonical = (canonical_generator P.field P.order rs c.requires.ideal r hr).canonical;
      inside = generator_inside P.field H.field P.order.places rs r hr;
      at_most = at_most _ _ (c.has_degree.ensures.yes c.if-has_degree.true);
    }
  where
    at_most : (a b : ℕ) → a ≡ b → a ≤ b
    at_most a b e = omega arith

pub generators-preserved : goal.generators-preserved
generators-preserved g c =
    let P = presented g.F.Field.ops g.O.Order.order c.args.p.now in
    let H = c.requires.step.presentation in
    let b = c.args.before.now in
    let s = c.generators.self in
    let rs = c.args.p.now.ideal.items in
    let r = c.r-item.result in
    let hr : Contains rs r = subst (λ xs. Contains xs r) c.deref-r-items.ensures.value (c.generators.r-index, c.generators-test.true, sym c.r-item.is) in
    let here : get_or rs c.generators.r-index [] ≡ r =
    ap (λ xs. get_or xs c.generators.r-index []) (sym c.deref-r-items.ensures.value) ∙ at_default c.deref-r-items.result.now c.generators.r-index r [] c.generators-test.true (sym c.r-item.is) in
    elim c.if-has_degree.branch [
      | then-has_degree+in_ok-reduce_and_insert w ↦
          let s' = w.reduce_and_insert.new.self in
          let later = w.in_ok-reduce_and_insert.ensures.later in
          record {
            later = subst (IsLaterStep P b c.args.self.now) (sym w.self-is) (later_chain P b c.args.self.now s s' c.generators.invariant.later later);
            reduces = subst (λ z. (k : ℕ) → k < c.generators.r-index + 1 → IsHomogeneous P.field P.order z.degree (get_or rs k []) → HasStandardRepresentation P.field P.order (all_members b z) (get_or rs k [])) (sym w.self-is)
                (below_more (λ k. IsHomogeneous P.field P.order w.reduce_and_insert.new.self.degree (get_or rs k []) → HasStandardRepresentation P.field P.order (all_members b w.reduce_and_insert.new.self) (get_or rs k [])) c.generators.r-index
                (λ k l h. represented_more P H (all_members b s) (all_members b w.reduce_and_insert.new.self) (part_all P b s w.reduce_and_insert.new.self later) (get_or rs k []) (c.generators.invariant.reduces k l (subst (λ d. IsHomogeneous P.field P.order d (get_or rs k [])) later.degree h)))
                (λ h. subst (HasStandardRepresentation P.field P.order (all_members b w.reduce_and_insert.new.self)) (sym here) w.in_ok-reduce_and_insert.ensures.reduces));
          }
      | else-has_degree w ↦ record {
        later = subst (IsLaterStep P b c.args.self.now) (sym w.self-is) c.generators.invariant.later;
        reduces = subst (λ z. (k : ℕ) → k < c.generators.r-index + 1 → IsHomogeneous P.field P.order z.degree (get_or rs k []) → HasStandardRepresentation P.field P.order (all_members b z) (get_or rs k [])) (sym w.self-is)
            (below_more (λ k. IsHomogeneous P.field P.order c.generators.self.degree (get_or rs k []) → HasStandardRepresentation P.field P.order (all_members b c.generators.self) (get_or rs k [])) c.generators.r-index
            c.generators.invariant.reduces
            (λ h. absurd (homogeneous_degree P H r c.generators.self.degree (canonical_generator P.field P.order rs c.requires.ideal r hr).canonical.decreasing (subst (IsHomogeneous P.field P.order c.generators.self.degree) here h) (w.if-has_degree.ensures.no refl))));
      }
    ]

pub returns-clause-reduces : goal.returns-clause-reduces
returns-clause-reduces g c = λ r hr h.
    let P = presented g.F.Field.ops g.O.Order.order c.args.p.now in
    let rs = c.args.p.now.ideal.items in
    let e = at_default rs hr.0 r [] hr.1 hr.2 in
    subst (HasStandardRepresentation P.field P.order (all_members c.args.before.now c.generators.self)) e
    (c.generators.invariant.reduces hr.0 (below_stop hr.0 (length rs) c.generators.r-index hr.1 (subst (λ xs. length xs ≤ c.generators.r-index) c.deref-r-items.ensures.value c.generators-test.false))
    (subst (IsHomogeneous P.field P.order c.generators.self.degree) (sym e) h))
