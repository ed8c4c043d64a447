use Rattle.std.proofs.Common.{refl, ◌∙◌, Some, None}
use Rattle.monomial_order.specs.laws.Rank.{rank_falls}
use Rattle.word_rewriting.specs.Rewriting.{stays}
use Rattle.word_rules.specs.Trimmed.{trim}
use Rattle.word_rules.proofs.Steps.{below, one_more, small_below}
use Rattle.word_rules.proofs.Trimming.{untrim_divides}
use Rattle.word_rules.proofs.rule_table.RuleTable.finish.Goals as goal

pub rewrite-init : goal.rewrite-init
rewrite-init g c = record { long = c.requires.long; rewrites = stays; small = c.requires.word }

pub returns-then-not-branch-clause-form : goal.returns-then-not-branch-clause-form
returns-then-not-branch-clause-form g c =
    let O = g.O.Order.order c.args.o.now in
    let L = g.met.O.Order.laws c.args.o.now in
    let R = c.args.self.now in
    record {
      rewrites = one_more O L R c.requires.decreasing c.in-Some.i (trim c.args.word) (trim c.rewrite.word) None c.in-Some.ensures.inside c.rewrite.invariant.rewrites
          (c.in_ok-step.ensures.zero c.if-not-branch.true);
      normal = tt;
    }

pub rewrite-smaller : goal.rewrite-smaller
rewrite-smaller g c =
    let O = g.O.Order.order c.args.o.now in
    let L = g.met.O.Order.laws c.args.o.now in
    let w = trim c.rewrite.word in
    let u = trim c.step.new.word in
    let less = below O L c.args.self.now c.requires.decreasing c.in-Some.i w (Some u) c.in-Some.ensures.inside c.rewrite.invariant.small.word (c.in_ok-step.ensures.next c.if-not-branch.false) in
    rank_falls O L u w less.0 less.1

pub rewrite-preserved : goal.rewrite-preserved
rewrite-preserved g c =
    let O = g.O.Order.order c.args.o.now in
    let L = g.met.O.Order.laws c.args.o.now in
    let R = c.args.self.now in
    let dec = c.requires.decreasing in
    let w = trim c.rewrite.word in
    let u = trim c.step.new.word in
    let small = c.rewrite.invariant.small in
    let inside = c.in-Some.ensures.inside in
    let by = c.in_ok-step.ensures.next c.if-not-branch.false in
    record {
      long = c.in_ok-step.ensures.long ∙ c.rewrite.invariant.long;
      rewrites = one_more O L R dec c.in-Some.i (trim c.args.word) w (Some u) inside c.rewrite.invariant.rewrites by;
      small = small_below O L R dec w u small (below O L R dec c.in-Some.i w (Some u) inside small.word by);
    }

pub returns-clause-form : goal.returns-clause-form
returns-clause-form g c = record {
  rewrites = c.rewrite.invariant.rewrites;
  normal = λ d. c.in_default.ensures.none refl (d.0, d.1, untrim_divides d.0.left c.rewrite.word d.2);
}
