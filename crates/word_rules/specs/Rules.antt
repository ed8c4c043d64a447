-- What calls of a table of rules need and promise.
use Rattle.std.specs.Prelude.{◌≡◌, ◌≢◌, ◌⊎◌, ℕ, ◌≤◌, ◌<◌, List, [], slice_index_or, Contains, AllPairs, Some, None}
use Rattle.monomial_order.specs.Limits.{exponent_max}
use Rattle.monomial_order.specs.Monomial.{Exponents, exponent, IsMonomial, AreCoprime}
use Rattle.monomial_order.specs.MonomialOrder.{MonomialOrder}
use Rattle.word_rewriting.specs.Rewriting.{WordOrZero, RewriteRule, RewritesBy, IsCriticalPair, IsNormalForm}
use Rattle.word_rewriting.specs.laws.Confluence.{IsDecreasingRule}

abbrev pub no_rule : RewriteRule
no_rule = record { left = []; right = None }

-- the rule at an index, counted from 0
abbrev pub rule_at : List RewriteRule → ℕ → RewriteRule
rule_at R i = slice_index_or R i no_rule

-- each rule rewrites its left side to a smaller word, or to zero
abbrev pub AreDecreasing : MonomialOrder → List RewriteRule → Type 0
AreDecreasing O R = (r : RewriteRule) → Contains R r → IsDecreasingRule O r

-- a word of the places, of a degree that fits
pub record IsSmallWord (O : MonomialOrder) (w : Exponents) : Type 0 where
  pub word : IsMonomial O.places w
  pub small : O.degree w ≤ exponent_max

-- the indexes below j of the rules whose left sides have a letter in common with that of rule j, each once
pub record AreSharing (R : List RewriteRule) (j : ℕ) (indexes : List ℕ) : Type 0 where
  pub below : (i : ℕ) → Contains indexes i → i < j
  pub share : (i : ℕ) → Contains indexes i → ¬ AreCoprime (rule_at R i).left (rule_at R j).left
  pub all : (i : ℕ) → i < j → AreCoprime (rule_at R i).left (rule_at R j).left ⊎ Contains indexes i
  pub once : AllPairs (λ i k. i ≢ k) indexes

-- the rule rewrites w to something of which u is a normal form
pub record IsFormAfter (R : List RewriteRule) (r : RewriteRule) (w : Exponents) (u : WordOrZero) : Type 0 where
  pub result : WordOrZero
  pub by : RewritesBy r w result
  pub form : IsNormalForm R result u

-- u and v are normal forms of the two members of the critical pair of r and s
pub record ArePairForms (R : List RewriteRule) (r s : RewriteRule) (u v : WordOrZero) : Type 0 where
  pub first : WordOrZero
  pub second : WordOrZero
  pub pair : IsCriticalPair r s first second
  pub first_form : IsNormalForm R first u
  pub second_form : IsNormalForm R second v

-- one word, or zero, is a normal form of both members of the critical pair of r and s
abbrev pub HasOneForm : List RewriteRule → RewriteRule → RewriteRule → Type 0
HasOneForm R r s = (u : WordOrZero) × ArePairForms R r s u u

-- a and b are words with a letter in common
pub record HaveCommonLetter (a b : WordOrZero) : Type 0 where
  pub first : Exponents
  pub second : Exponents
  pub letter : ℕ
  pub is_first : a ≡ Some first
  pub is_second : b ≡ Some second
  pub in_first : exponent first letter ≢ 0
  pub in_second : exponent second letter ≢ 0
