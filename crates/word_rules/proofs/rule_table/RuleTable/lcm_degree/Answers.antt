use Rattle.std.proofs.Common.{◌++◌, ◌∙◌, ap, arith}
use Rattle.monomial_order.specs.Monomial.{least_common_multiple, weighted_degree}
use Rattle.monomial_order.specs.laws.Monomial.{weighted_nil}
use Rattle.word_rules.specs.Rules.{rule_at}
use Rattle.word_rules.proofs.FactorDegrees.{first_degree}
use Rattle.word_rules.proofs.rule_table.RuleTable.lcm_degree.Goals as goal

pub added_degree-requires : goal.added_degree-requires
added_degree-requires c =
    let ws = c.args.x_degrees.now ++ c.args.s_degrees.now in
    let same = ap (weighted_degree ws) c.left_side.ensures in
    let least = first_degree ws (rule_at c.args.self.now c.args.i).left (rule_at c.args.self.now c.args.j).left in
    let small = c.requires.small in
    record { small = omega arith }

pub returns : goal.returns
returns c =
    let ws = c.args.x_degrees.now ++ c.args.s_degrees.now in
    let first = c.added_degree.ensures in
    let second = c.added_degree-2.ensures in
    let none = weighted_nil ws in
    let a = (rule_at c.args.self.now c.args.i).left in
    let b = c.left_side-2.result.now in
    let is_a = c.as_slice.ensures.same ∙ c.left.ensures in
    let left = ap (weighted_degree ws) c.left_side.ensures in
    let other = ap (weighted_degree ws) is_a in
    let both = ap (λ o. weighted_degree ws (least_common_multiple o b)) is_a in
    let right = ap (λ w. weighted_degree ws (least_common_multiple a w)) c.left_side-2.ensures in
    omega arith
