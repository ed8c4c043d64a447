use Rattle.std.proofs.Common.{◌≡◌, ◌∙◌, ◌+◌, length, sym, ap, subst, true, false, arith}
use Rattle.degree_queue.specs.DegreeQueue.{list_of}
use Rattle.poly_core.specs.Presentation.{presented}
use Rattle.completion.proofs.QueuedCandidates.{AreFirst, all_first, one_more_first, same_first}
use Rattle.completion.proofs.candidates.queue_generators.Goals.{then-has_degree+in_ok-push_candidate, else-has_degree}
use Rattle.completion.proofs.candidates.queue_generators.Goals as goal

apart : false ≡ true → ⊥
apart e = cc

pub generators-preserved : goal.generators-preserved
generators-preserved g c =
    let P = presented g.F.Field.ops g.O.Order.order c.args.p.now in let d = c.args.d in let i = c.generators.i in
    let before = list_of c.generators.queue d in
    record {
      first = elim c.if-has_degree.branch [
        | then-has_degree+in_ok-push_candidate w ↦ subst (λ q. AreFirst P d (i + 1) (list_of q d)) (sym w.queue-is)
            (one_more_first P d i before (list_of w.push_candidate.new.queue d) c.generators.invariant.first
            (c.has_degree.ensures.0 w.if-has_degree.true) w.in_ok-push_candidate.ensures.last)
        | else-has_degree w ↦ subst (λ q. AreFirst P d (i + 1) (list_of q d)) (sym w.queue-is)
            (same_first P d i before c.generators.invariant.first
            (λ k. apart (sym w.if-has_degree.false ∙ c.has_degree.ensures.1 k)))
      ];
      others = elim c.if-has_degree.branch [
        | then-has_degree+in_ok-push_candidate w ↦ λ o n. ap (λ q. list_of q o)
            w.queue-is ∙ (w.push_candidate.ensures.others o n ∙ c.generators.invariant.others o n)
        | else-has_degree w ↦ λ o n. ap (λ q. list_of q o) w.queue-is ∙ c.generators.invariant.others o n
      ];
    }

pub returns-clause-candidates : goal.returns-clause-candidates
returns-clause-candidates g c =
    let P = presented g.F.Field.ops g.O.Order.order c.args.p.now in
    let t = c.generators-test.false in let a = c.generators.auto.i-end in let l = c.len-i-end.ensures in
    let e : c.generators.i ≡ length c.args.p.now.generators.items = omega arith in
    all_first P c.args.d (list_of c.generators.queue c.args.d)
    (subst (λ n. AreFirst P c.args.d n (list_of c.generators.queue c.args.d)) e c.generators.invariant.first)
