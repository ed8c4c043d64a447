-- The rules of a listing as rules that rewrite words.
use Rattle.std.specs.Prelude.{ℕ, ◌≤◌, List, map, Contains}
use Rattle.monomial_order.specs.Monomial.{Exponents, IsMultiple}
use Rattle.word_laws.specs.Words.{Letters, word_order_of}
use Rattle.word_rewriting.specs.Rewriting.{RewriteRule}
use Rattle.word_rewriting.specs.Completeness.{AreRewriteRules, AreReducedRules, GeneratesReducible}
use Rattle.toric_ideal.specs.declared.rule.Rule.{Rule}

abbrev pub rewrite_rule : Rule → RewriteRule
rewrite_rule r = record { left = r.word; right = r.least }

abbrev pub rewrite_rules : List Rule → List RewriteRule
rewrite_rules rules = map rewrite_rule rules

-- reduced rules whose left sides, of degree at most d, generate the reducible words to d
pub record AreExactRules (L : Letters) (Z : List Exponents) (d : ℕ) (R : List RewriteRule) : Type 0 where
  pub rules : AreRewriteRules (IsMultiple Z) L R
  pub reduced : AreReducedRules R
  pub generates : GeneratesReducible (IsMultiple Z) L R d
  pub degree : (r : RewriteRule) → Contains R r → (word_order_of L).degree r.left ≤ d

-- the two lists have the same rules
pub record AreSameRules (rules : List Rule) (R : List RewriteRule) : Type 0 where
  pub there : (r : Rule) → Contains rules r → Contains R (rewrite_rule r)
  pub back : (t : RewriteRule) → Contains R t → Contains (rewrite_rules rules) t
