-- One degree of a completion.
use Rattle.std.specs.Prelude.{◌≡◌, ◌≢◌, ◌⊎◌, ℕ, ◌+◌, ◌≤◌, ◌<◌, List, ◌++◌, length, take, Contains, Some, None}
use Rattle.monomial_order.specs.Monomial.{Exponents, Divides, IsMultiple, least_common_multiple, weighted_degree}
use Rattle.monomial_order.specs.Limits.{degree_max}
use Rattle.monomial_order.specs.MonomialOrder.{MonomialOrder}
use Rattle.word_laws.specs.Words.{Letters, word_order_of, IsWord}
use Rattle.word_rewriting.specs.Rewriting.{WordOrZero, RewriteRule, Rewrites, IsInNormalForm}
use Rattle.word_rewriting.specs.Completeness.{AreRewriteRules}
use Rattle.word_rewriting.specs.Completion.{Orients}
use Rattle.word_rewriting.specs.laws.Confluence.{IsBelow}
use Rattle.word_rules.specs.Rules.{rule_at}
use Rattle.toric_ideal.specs.Rewriting.{AreExactRules}

-- the degree of the pair of the rules at two indexes
abbrev pub pair_degree : MonomialOrder → List RewriteRule → ℕ → ℕ → ℕ
pair_degree O R i j = O.degree (least_common_multiple (rule_at R i).left (rule_at R j).left)

-- S has the rules of R, of smaller degrees, and further ones of degree d, whose pairs are above d
pub record IsStep (L : Letters) (Z : List Exponents) (d : ℕ) (R S : List RewriteRule) : Type 0 where
  pub more : List RewriteRule
  pub whole : S ≡ R ++ more
  pub rules : AreRewriteRules (IsMultiple Z) L S
  pub degree : (r : RewriteRule) → Contains more r → (word_order_of L).degree r.left ≡ d
  pub apart : (r s : RewriteRule) → Contains S r → Contains S s → Divides s.left r.left → s.left ≡ r.left
  pub above : (i j : ℕ) → i < j → length R ≤ j → j < length S → d < pair_degree (word_order_of L) S i j

-- both rules rewrite to zero
abbrev pub AreBothZero : RewriteRule → RewriteRule → Type 0
AreBothZero r s = (r.right ≡ None) × (s.right ≡ None)

-- each zero of degree d among these rewrites to zero
abbrev pub ZerosVanish : Letters → ℕ → List RewriteRule → List Exponents → Type 0
ZerosVanish L d S zeros = (z : Exponents) → Contains zeros z → weighted_degree L.degrees z ≡ d → Rewrites S (Some z) None

-- one of u and v is less, or zero, and the rule rewrites the other to it
pub record IsOriented (O : MonomialOrder) (u v : WordOrZero) (t : RewriteRule) : Type 0 where
  pub orients : Orients t u v
  pub below : IsBelow O t.left t.right

-- the rules at each index have the same left side
abbrev pub KeepsLefts : List RewriteRule → List RewriteRule → Type 0
KeepsLefts old new = (k : ℕ) → (rule_at new k).left ≡ (rule_at old k).left

-- the same left sides, with right sides that are normal forms of the old ones for all rules before index i
pub record IsCleaned (L : Letters) (Z : List Exponents) (S T : List RewriteRule) (i : ℕ) : Type 0 where
  pub number : length T ≡ length S
  pub lefts : KeepsLefts S T
  pub rules : AreRewriteRules (IsMultiple Z) L T
  pub normal : (k : ℕ) → k < i → IsInNormalForm S (rule_at T k).right

-- What a degree above c of a completion holds, with the first rules, so many, those of degree at most c.
pub record IsGrowing (L : Letters) (Z : List Exponents) (c first : ℕ) (S : List RewriteRule) : Type 0 where
  pub within : first ≤ length S
  pub exact : AreExactRules L Z c (take first S)
  pub step : IsStep L Z (c + 1) (take first S) S

-- the first rules, so many, stay
pub record KeepsFirst (first : ℕ) (old new : List RewriteRule) : Type 0 where
  pub within : first ≤ length new
  pub same : take first new ≡ take first old

-- two of the first rules have a pair of degree d
pub record IsPairAt (O : MonomialOrder) (d first : ℕ) (S : List RewriteRule) (i j : ℕ) : Type 0 where
  pub rising : i < j
  pub below : j < first
  pub degree : pair_degree O S i j ≡ d

-- the members are monomials of degrees that the program computes with
abbrev pub AreSmallZeros : Letters → List Exponents → Type 0
AreSmallZeros L zeros = (z : Exponents) → Contains zeros z → weighted_degree L.degrees z ≤ degree_max

-- the right side at an index is rewritten to its normal form
pub record IsRewrittenAt (L : Letters) (Z : List Exponents) (S T : List RewriteRule) (i : ℕ) : Type 0 where
  pub number : length T ≡ length S
  pub lefts : KeepsLefts S T
  pub others : (k : ℕ) → k ≢ i → rule_at T k ≡ rule_at S k
  pub rules : AreRewriteRules (IsMultiple Z) L T
  pub normal : IsInNormalForm T (rule_at T i).right

-- rules of words whose degrees the program computes with
pub record AreSmallRules (L : Letters) (Z : List Exponents) (S : List RewriteRule) : Type 0 where
  pub rules : AreRewriteRules (IsMultiple Z) L S
  pub small : (r : RewriteRule) → Contains S r → (word_order_of L).degree r.left ≤ degree_max

-- The rules to the degree c + 1: those of S, and further ones of this degree.
pub record IsGrown (L : Letters) (Z : List Exponents) (c : ℕ) (S T : List RewriteRule) : Type 0 where
  pub exact : AreExactRules L Z (c + 1) T
  pub keeps : KeepsFirst (length S) S T
  pub fresh : (k : ℕ) → length S ≤ k → k < length T → (word_order_of L).degree (rule_at T k).left ≡ c + 1

-- the leads have degrees of at most c
abbrev pub HaveDegreesTo : ℕ → Letters → Type 0
HaveDegreesTo c L = (m : Exponents) → Contains L.leads m → weighted_degree L.degrees m ≤ c

-- the left sides are words whose degrees the program computes with
abbrev pub AreSmallWords : Letters → List RewriteRule → Type 0
AreSmallWords L S = (r : RewriteRule) → Contains S r → IsWord L r.left × ((word_order_of L).degree r.left ≤ degree_max)

-- The rules to the degree d: those of S, which are the rules to c, and further ones.
pub record IsExtension (L : Letters) (Z : List Exponents) (c d : ℕ) (S T : List RewriteRule) : Type 0 where
  pub exact : AreExactRules L Z d T
  pub keeps : KeepsFirst (length S) S T
  pub fresh : (k : ℕ) → length S ≤ k → k < length T → c < (word_order_of L).degree (rule_at T k).left

-- The rules of R, in which the right sides w are the letter now, and one from w to the letter.
pub record IsWithLetter (w letter : Exponents) (R S : List RewriteRule) : Type 0 where
  pub each : (s : RewriteRule) → Contains S s →
      ((r : RewriteRule) × Contains R r × (s.left ≡ r.left) × (((s.right ≡ r.right) × (r.right ≢ Some w)) ⊎ ((r.right ≡ Some w) × (s.right ≡ Some letter)))) ⊎
      ((s.left ≡ w) × (s.right ≡ Some letter))
  pub all : (r : RewriteRule) → Contains R r → (s : RewriteRule) × Contains S s × (s.left ≡ r.left)
  pub new : (s : RewriteRule) × Contains S s × (s.left ≡ w)
