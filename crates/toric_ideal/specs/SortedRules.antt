-- Rules in the order of their words.
use Rattle.std.specs.Prelude.{◌≡◌, ◌⊎◌, ℕ, ◌≤◌, ◌<◌, List, map, Contains}
use Rattle.monomial_order.specs.Monomial.{Exponents}
use Rattle.monomial_order.specs.MonomialOrder.{IsIncreasing, MonomialOrder}
use Rattle.word_rewriting.specs.Rewriting.{RewriteRule}
use Rattle.word_rules.specs.Rules.{rule_at, IsSmallWord}
use Rattle.toric_ideal.specs.declared.rule.Rule.{Rule}
use Rattle.toric_ideal.specs.Rewriting.{rewrite_rule}

abbrev pub words_of : List Rule → List Exponents
words_of rules = map (λ r. r.word) rules

abbrev pub HaveSmallWords : MonomialOrder → List Rule → Type 0
HaveSmallWords O rules = (r : Rule) → Contains rules r → IsSmallWord O r.word

-- The rules at the indexes from `first` up to `end`, increasing; of rules with the same word there is one.
pub record AreSortedRules (O : MonomialOrder) (R : List RewriteRule) (first end : ℕ) (rules : List Rule) : Type 0 where
  pub increasing : IsIncreasing O (words_of rules)
  pub there : (r : Rule) → Contains rules r → (k : ℕ) × (first ≤ k) × (k < end) × (rewrite_rule r ≡ rule_at R k)
  pub back : (k : ℕ) → first ≤ k → k < end → (r : Rule) × Contains rules r × (r.word ≡ (rule_at R k).left)

-- the increasing list of a rule and those of the old one, unless its word is there
pub record IsInsertedRule (O : MonomialOrder) (old new : List Rule) (t : Rule) : Type 0 where
  pub increasing : IsIncreasing O (words_of new)
  pub here : (r : Rule) × Contains new r × (r.word ≡ t.word)
  pub keeps : (r : Rule) → Contains old r → Contains new r
  pub only : (r : Rule) → Contains new r → (t ≡ r) ⊎ Contains old r
