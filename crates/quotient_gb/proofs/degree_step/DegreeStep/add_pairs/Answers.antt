use Rattle.std.proofs.Common.{◌≡◌, ◌<◌, ◌+◌, sym, ◌∙◌, ap, subst, ℕ, length, get_or}
use borrow.Author.Count.{below_more}
use Rattle.monomial_order.specs.laws.Lists.{contains_at}
use Rattle.poly_core.specs.Presentation.{presented}
use Rattle.quotient_gb.specs.DegreeStep.{all_members, IsLaterStep, ReducesPair}
use Rattle.quotient_gb.proofs.Places.{not_below_zero, at_default, below_stop}
use Rattle.quotient_gb.proofs.Representations.{s_polynomial_more}
use Rattle.quotient_gb.proofs.SPolynomials.{no_pair}
use Rattle.quotient_gb.proofs.Steps.{later_itself, later_chain, part_all}
use Rattle.quotient_gb.proofs.degree_step.DegreeStep.add_pairs.Goals as goal
use Rattle.quotient_gb.proofs.degree_step.DegreeStep.add_pairs.Goals.{then-w-self+in_ok-add_s_polynomial, else-w-self}

pub pairs-init : goal.pairs-init
pairs-init g c = record {
  later = later_itself (presented g.F.Field.ops g.O.Order.order c.args.p.now) c.requires.step.presentation c.args.before.now c.args.self.now c.requires.step;
  reduces = λ k l. absurd (not_below_zero k l);
}

pub add_s_polynomial-requires : goal.add_s_polynomial-requires
add_s_polynomial-requires g c = record {
  step = c.pairs.invariant.later.step;
  pair = c.requires.pairs (get_or c.args.pairs.now c.pairs.w-index no_pair) (contains_at c.args.pairs.now c.pairs.w-index no_pair c.pairs-test.true);
  degree = c.if-w-self.true;
}

pub pairs-preserved : goal.pairs-preserved
pairs-preserved g c =
    let P = presented g.F.Field.ops g.O.Order.order c.args.p.now in
    let H = c.requires.step.presentation in
    let b = c.args.before.now in
    let s = c.pairs.self in
    let ws = c.args.pairs.now in
    elim c.if-w-self.branch [
      | then-w-self+in_ok-add_s_polynomial w ↦
          let later = w.in_ok-add_s_polynomial.ensures.later in
          record {
            later = subst (IsLaterStep P b c.args.self.now) (sym w.self-is) (later_chain P b c.args.self.now s w.add_s_polynomial.new.self c.pairs.invariant.later later);
            reduces = subst (λ z. (k : ℕ) → k < c.pairs.w-index + 1 → (get_or ws k no_pair).degree ≡ z.degree → ReducesPair P b z (get_or ws k no_pair)) (sym w.self-is)
                (below_more (λ k. (get_or ws k no_pair).degree ≡ w.add_s_polynomial.new.self.degree → ReducesPair P b w.add_s_polynomial.new.self (get_or ws k no_pair)) c.pairs.w-index
                (λ k l h. s_polynomial_more P H (all_members b s) (all_members b w.add_s_polynomial.new.self) (part_all P b s w.add_s_polynomial.new.self later) _ _ (c.pairs.invariant.reduces k l (h ∙ later.degree)))
                (λ h. w.in_ok-add_s_polynomial.ensures.reduces));
          }
      | else-w-self w ↦ record {
        later = subst (IsLaterStep P b c.args.self.now) (sym w.self-is) c.pairs.invariant.later;
        reduces = subst (λ z. (k : ℕ) → k < c.pairs.w-index + 1 → (get_or ws k no_pair).degree ≡ z.degree → ReducesPair P b z (get_or ws k no_pair)) (sym w.self-is)
            (below_more (λ k. (get_or ws k no_pair).degree ≡ c.pairs.self.degree → ReducesPair P b c.pairs.self (get_or ws k no_pair)) c.pairs.w-index c.pairs.invariant.reduces (λ h. absurd (w.if-w-self.false h)));
      }
    ]

pub returns-clause-reduces : goal.returns-clause-reduces
returns-clause-reduces g c = λ w k h.
    let P = presented g.F.Field.ops g.O.Order.order c.args.p.now in
    let e = at_default c.args.pairs.now k.0 w no_pair k.1 k.2 in
    subst (ReducesPair P c.args.before.now c.pairs.self) e
    (c.pairs.invariant.reduces k.0 (below_stop k.0 (length c.args.pairs.now) c.pairs.w-index k.1 c.pairs-test.false) (ap (λ z. z.degree) e ∙ h))
