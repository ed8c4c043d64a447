use Rattle.std.proofs.Common.{◌≡◌, length, Some}
use Rattle.monomial_order.specs.Ranks.{rank}
use Rattle.word_rewriting.specs.Rewriting.{Rewrites}
use Rattle.word_rules.specs.Rules.{IsSmallWord}
use Rattle.word_rules.specs.Trimmed.{trim}
use Rattle.word_rules.proofs.rule_table.RuleTable.finish.Given as goal

-- the word so far
abbrev pub invariant-rewrite : goal.invariant-rewrite
invariant-rewrite g l = record {
  long : length l.word ≡ (g.O.Order.order l.o).places;
  rewrites : Rewrites l.self (Some (trim l.initial.word)) (Some (trim l.word));
  small : IsSmallWord (g.O.Order.order l.o) (trim l.word);
}

abbrev pub decreases-rewrite : goal.decreases-rewrite
decreases-rewrite g l = rank (g.O.Order.order l.o) (trim l.word)
