use Rattle.std.proofs.Common.{◌<◌, ◌≤◌, subst, refl, length}
use Rattle.poly_core.specs.Presentation.{presented}
use Rattle.quotient_gb.proofs.Places.{below_stop}
use Rattle.quotient_gb.proofs.Steps.{set_step, set_tails, divides_same, found_count}
use Rattle.quotient_gb.proofs.degree_step.DegreeStep.reduce_tails.Goals as goal

pub with_reduced_tail-requires-clause-index : goal.with_reduced_tail-requires-clause-index
with_reduced_tail-requires-clause-index g c =
    let P = presented g.F.Field.ops g.O.Order.order c.args.p.now in
    subst (λ n. c.tails.i < n) (found_count P c.args.before.now c.args.self.now c.tails.self c.requires.step c.tails.invariant.step c.tails.invariant.leads) (subst (λ xs. c.tails.i < length xs) c.as_slice-i-end.ensures.value c.tails-test.true)

pub tails-preserved : goal.tails-preserved
tails-preserved g c =
    let P = presented g.F.Field.ops g.O.Order.order c.args.p.now in
    let H = c.requires.step.presentation in
    let b = c.args.before.now in
    let s = c.tails.self in
    let h = c.tails.invariant in
    let m = c.in_ok-member in
    let l = subst (λ n. c.tails.i < n) (found_count P c.args.before.now c.args.self.now c.tails.self c.requires.step c.tails.invariant.step c.tails.invariant.leads) (subst (λ xs. c.tails.i < length xs) c.as_slice-i-end.ensures.value c.tails-test.true) in
    record {
      degree = h.degree;
      leads = h.leads;
      step = set_step P H b s h.step c.tails.i l m.member m.ensures.member m.ensures.lead _ refl refl refl;
      tails = set_tails P H b s h.step c.tails.i l m.member m.ensures.member m.ensures.lead (divides_same P b c.args.self.now s c.requires.step h.step h.degree h.leads c.requires.divides) h.tails m.ensures.tail;
    }

pub returns-clause-finished : goal.returns-clause-finished
returns-clause-finished g c =
    let P = presented g.F.Field.ops g.O.Order.order c.args.p.now in
    let b = c.args.before.now in
    let s = c.tails.self in
    let h = c.tails.invariant in
    record {
      step = h.step;
      divides = divides_same P b c.args.self.now s c.requires.step h.step h.degree h.leads c.requires.divides;
      tails = λ i l k. h.tails i (below_stop i (length s.found.members.items) c.tails.i l
          (subst (λ n. n ≤ c.tails.i) (found_count P b c.args.self.now s c.requires.step h.step h.leads) (subst (λ xs. length xs ≤ c.tails.i) c.as_slice-i-end.ensures.value c.tails-test.false))) k;
    }
