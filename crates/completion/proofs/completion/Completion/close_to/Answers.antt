use Rattle.std.proofs.Common.{◌≡◌, suc, ap, arith}
use Rattle.completion.proofs.Kept.{kept_after}
use Rattle.completion.proofs.completion.Completion.close_to.Goals as goal

pub returns-in_err-begin_degree-clause-kept : goal.returns-in_err-begin_degree-clause-kept
returns-in_err-begin_degree-clause-kept g c =
    let k = kept_after g.F.Field.ops g.O.Order.order c.args.self.now c.degrees.self c.begin_degree.new.self
    c.degrees.invariant.kept
    c.begin_degree.ensures.kept c.degrees.invariant.from c.degrees.invariant.completion in
    k

pub returns-in_err-end_degree-clause-kept : goal.returns-in_err-end_degree-clause-kept
returns-in_err-end_degree-clause-kept g c =
    let k = kept_after g.F.Field.ops g.O.Order.order c.args.self.now c.degrees.self c.begin_degree.new.self
    c.degrees.invariant.kept
    c.begin_degree.ensures.kept c.degrees.invariant.from c.degrees.invariant.completion in
    let e : c.self.inside.degree ≡ c.degrees.self.degree = ap (λ s. s.degree) c.self.view_is in
    let b : c.begin_degree.new.self.degree ≡ c.degrees.self.degree = c.begin_degree.ensures.degree in
    let f = c.degrees.invariant.from in
    kept_after g.F.Field.ops g.O.Order.order c.args.self.now c.begin_degree.new.self c.end_degree.new.self k
    c.end_degree.ensures.kept (omega arith) c.begin_degree.ensures.completion

pub degrees-preserved : goal.degrees-preserved
degrees-preserved g c =
    let k = kept_after g.F.Field.ops g.O.Order.order c.args.self.now c.degrees.self c.begin_degree.new.self
    c.degrees.invariant.kept
    c.begin_degree.ensures.kept c.degrees.invariant.from c.degrees.invariant.completion in
    let e : c.self.inside.degree ≡ c.degrees.self.degree = ap (λ s. s.degree) c.self.view_is in
    let b : c.begin_degree.new.self.degree ≡ c.degrees.self.degree = c.begin_degree.ensures.degree in
    let f = c.degrees.invariant.from in
    let n : c.end_degree.new.self.degree ≡ suc c.begin_degree.new.self.degree = c.in_ok-end_degree.ensures.degree in
    let t = c.degrees-test.true in
    record {
      completion = c.end_degree.ensures.completion;
      not_begun = c.in_ok-end_degree.ensures.closed;
      from = omega arith;
      to = omega arith;
      kept = kept_after g.F.Field.ops g.O.Order.order c.args.self.now c.begin_degree.new.self c.end_degree.new.self k
          c.end_degree.ensures.kept (omega arith) c.begin_degree.ensures.completion;
    }
