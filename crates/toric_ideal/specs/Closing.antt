-- Pairs above the degree.
use Rattle.std.specs.Prelude.{◌⊎◌, ℕ, ◌≤◌, ◌<◌, Bool, List}
use Rattle.monomial_order.specs.Monomial.{Exponents, AreCoprime, IsMultiple}
use Rattle.monomial_order.specs.MonomialOrder.{MonomialOrder}
use Rattle.word_laws.specs.Words.{Letters, IsWord, IsReducible}
use Rattle.word_rewriting.specs.Rewriting.{RewriteRule, HasJoinablePair, HasLeftDivisor}
use Rattle.word_rules.specs.Rules.{rule_at}
use Rattle.toric_ideal.specs.Listing.{HasRuleDivisor, Listing}
use Rattle.toric_ideal.specs.Rewriting.{AreExactRules}
use Rattle.toric_ideal.specs.Step.{pair_degree}

-- the greatest degree of rules whose pairs can be joined all
abbrev pub closing_max : ℕ
closing_max = 15000

-- exact rules to the degree c, which is at most that
pub record CanClose (L : Letters) (Z : List Exponents) (c : ℕ) (R : List RewriteRule) : Type 0 where
  pub exact : AreExactRules L Z c R
  pub small : c ≤ closing_max

-- the pair of two rules is joinable, if its degree is above c
abbrev pub IsPairJoined : MonomialOrder → ℕ → List RewriteRule → ℕ → ℕ → Type 0
IsPairJoined O c R i j = c < pair_degree O R i j → HasJoinablePair R (rule_at R i) (rule_at R j)

-- so are the pairs of a rule with those before it whose left sides are not coprime to its own
abbrev pub JoinsPairsOf : MonomialOrder → ℕ → List RewriteRule → ℕ → Type 0
JoinsPairsOf O c R j = (i : ℕ) → i < j → AreCoprime (rule_at R i).left (rule_at R j).left ⊎ IsPairJoined O c R i j

-- there is a reducible word that no left side divides
abbrev pub ShowsMissedWord : Letters → List Exponents → List RewriteRule → Type 0
ShowsMissedWord L Z R = (w : Exponents) × IsWord L w × IsReducible (IsMultiple Z) L w × (HasLeftDivisor R w → ⊥)

-- the listing, known to be closed or not
abbrev pub with_closed : Bool → Listing → Listing
with_closed closed W = record { letters = W.letters; zeros = W.zeros; degree = W.degree; rules = W.rules; closed = closed }

-- there is a reducible word that no word of a rule divides
abbrev pub HasMissedWord : Listing → Type 0
HasMissedWord W = (w : Exponents) × IsWord W.letters w × IsReducible (IsMultiple W.zeros) W.letters w × (HasRuleDivisor W.rules w → ⊥)
