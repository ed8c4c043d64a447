use Rattle.std.proofs.Common.{◌≤◌, ◌<◌, ◌-◌, ℕ, length}
use Rattle.word_rules.specs.Rules.{rule_at}
use Rattle.toric_ideal.specs.Rewriting.{rewrite_rules}
use Rattle.toric_ideal.proofs.last_rules.first_of_degree.Given as goal

-- the rules before `low` have smaller degrees
abbrev pub invariant-seek : goal.invariant-seek
invariant-seek g l = record {
  rising : l.low ≤ l.high;
  within : l.high ≤ length l.rules;
  lower : (k : ℕ) → k < l.low → (g.O.Order.order l.o).degree (rule_at (rewrite_rules l.rules) k).left < l.degree;
}

abbrev pub decreases-seek : goal.decreases-seek
decreases-seek g l = l.high - l.low
