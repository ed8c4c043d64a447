-- Rewriting of words by rules.
use Rattle.std.specs.Prelude.{◌≡◌, ℕ, ◌≤◌, List, Contains, Option, Some, None, option_map}
use Rattle.monomial_order.specs.Monomial.{Exponents, IsTrimmed, product, Divides, least_common_multiple}
use Rattle.monomial_order.specs.MonomialOrder.{MonomialOrder}

-- a word, or zero, which is None
abbrev pub WordOrZero : Type 0
WordOrZero = Option Exponents

-- a rule rewrites its left side to its right side
pub record RewriteRule : Type 0 where
  pub left : Exponents
  pub right : WordOrZero

-- no rule goes
abbrev pub KeepsRules : List RewriteRule → List RewriteRule → Type 0
KeepsRules old new = (r : RewriteRule) → Contains old r → Contains new r

-- a multiple of a word or of zero
abbrev pub multiple : Exponents → WordOrZero → WordOrZero
multiple k a = option_map (product k) a

-- the rule rewrites w to a: w is a multiple of the left side, and a is that multiple of the right side
pub record RewritesBy (r : RewriteRule) (w : Exponents) (a : WordOrZero) : Type 0 where
  pub cofactor : Exponents
  pub trimmed : IsTrimmed cofactor
  pub word : product cofactor r.left ≡ w
  pub result : multiple cofactor r.right ≡ a

-- a rule of the list rewrites w to a
pub record RewritesOnce (R : List RewriteRule) (w : Exponents) (a : WordOrZero) : Type 0 where
  pub rule : RewriteRule
  pub listed : Contains R rule
  pub by : RewritesBy rule w a

-- a rewrites to b in any number of steps
pub data Rewrites (R : List RewriteRule) : WordOrZero → WordOrZero → Type 0 where
  stays : {a : WordOrZero} → Rewrites R a a
  steps : {w : Exponents} {a b : WordOrZero} → RewritesOnce R w a → Rewrites R a b → Rewrites R (Some w) b

-- a and b rewrite to the same
abbrev pub AreJoinable : List RewriteRule → WordOrZero → WordOrZero → Type 0
AreJoinable R a b = (d : WordOrZero) × Rewrites R a d × Rewrites R b d

-- the left side of a rule divides the word
abbrev pub HasLeftDivisor : List RewriteRule → Exponents → Type 0
HasLeftDivisor R w = (r : RewriteRule) × Contains R r × Divides r.left w

-- no rule rewrites it
abbrev pub IsInNormalForm : List RewriteRule → WordOrZero → Type 0
IsInNormalForm R None = Unit {0}
IsInNormalForm R (Some w) = ¬ HasLeftDivisor R w

-- b is a normal form of a
pub record IsNormalForm (R : List RewriteRule) (a b : WordOrZero) : Type 0 where
  pub rewrites : Rewrites R a b
  pub normal : IsInNormalForm R b

-- a and b are the critical pair of r and s: these rewrite the least common multiple of their left sides to a and to b
abbrev pub IsCriticalPair : RewriteRule → RewriteRule → WordOrZero → WordOrZero → Type 0
IsCriticalPair r s a b =
    RewritesBy r (least_common_multiple r.left s.left) a × RewritesBy s (least_common_multiple r.left s.left) b

-- the critical pair of r and s is joinable
abbrev pub HasJoinablePair : List RewriteRule → RewriteRule → RewriteRule → Type 0
HasJoinablePair R r s = (a b : WordOrZero) → IsCriticalPair r s a b → AreJoinable R a b

-- it is joinable if its degree is at most c
abbrev pub JoinsPair : MonomialOrder → List RewriteRule → ℕ → RewriteRule → RewriteRule → Type 0
JoinsPair O R c r s = O.degree (least_common_multiple r.left s.left) ≤ c → HasJoinablePair R r s

-- the critical pairs of degree at most c are joinable
abbrev pub JoinsPairs : MonomialOrder → List RewriteRule → ℕ → Type 0
JoinsPairs O R c = (r s : RewriteRule) → Contains R r → Contains R s → JoinsPair O R c r s
