use Rattle.std.proofs.Common.{◌<◌, ◌+◌, ◌-◌, ◌/◌, ap, arith, get_or, length}
use Rattle.monomial_order.specs.laws.Lists.{contains_at}
use Rattle.word_rewriting.specs.Rewriting.{RewriteRule}
use Rattle.toric_ideal.specs.SortedRules.{words_of}
use Rattle.toric_ideal.proofs.IncreasingLists.{before_degree}
use Rattle.toric_ideal.proofs.Renamings.{listed_rule}
use Rattle.toric_ideal.proofs.RuleLists.{word_at, words_length}
use Rattle.toric_ideal.proofs.last_rules.first_of_degree.Goals as goal

pub seek-init : goal.seek-init
seek-init g c = record { rising = omega arith; within = omega arith; lower = λ k l. absurd (omega arith) }

pub degree-requires-clause-monomial : goal.degree-requires-clause-monomial
degree-requires-clause-monomial g c =
    let d = c.index-rules-middle.result in
    let j = c.seek.low + (c.seek.high - c.seek.low) / 2 in
    let i = c.seek.invariant.within in let t = c.seek-test.true in
    (c.requires.small (get_or c.args.rules.now j d) (contains_at c.args.rules.now j d (omega arith))).word

pub seek-preserved-then-degree : goal.seek-preserved-then-degree
seek-preserved-then-degree g c =
    let O = g.O.Order.order c.args.o.now in
    let rules = c.args.rules.now in
    let d = c.index-rules-middle.result in
    let j = c.seek.low + (c.seek.high - c.seek.low) / 2 in
    let i = c.seek.invariant.within in let t = c.seek-test.true in
    let lj : j < length rules = omega arith in
    record {
      rising = omega arith;
      within = i;
      lower = λ k l.
          let lk : k < length rules = omega arith in
          let n = words_length rules in
          let here = c.degree.ensures in
          let below = c.if-degree.true in
          let e = ap O.degree (word_at rules j d lj) in
          let f = ap O.degree (word_at rules k d lk) in
          let q = ap (λ (r : RewriteRule). O.degree r.left) (listed_rule rules k d lk) in
          let b = before_degree O (g.met.O.Order.laws c.args.o.now) (words_of rules) j k c.requires.increasing (omega arith) (omega arith) in
          omega arith;
    }

pub seek-preserved : goal.seek-preserved
seek-preserved g c =
    let t = c.seek-test.true in
    let i = c.seek.invariant.within in
    record { rising = omega arith; within = omega arith; lower = c.seek.invariant.lower }
