-- The state of a completion: rules, and the critical pairs that are still to be joined.
use Rattle.std.specs.Prelude.{◌≡◌, ◌⊎◌, ℕ, suc, ◌<◌, List, [], ◌∷◌, ◌++◌, length, get_or, map, Contains, AllPairs, Some, None}
use Rattle.monomial_order.specs.Monomial.{Exponents, Divides, AreCoprime, least_common_multiple, variable}
use Rattle.monomial_order.specs.MonomialOrder.{MonomialOrder}
use Rattle.word_laws.specs.Words.{Letters}
use Rattle.word_rewriting.specs.Rewriting.{WordOrZero, RewriteRule, Rewrites, AreJoinable, HasJoinablePair}
use Rattle.word_rewriting.specs.Completeness.{lead_letter, AreRewriteRules}

-- two rules, for their critical pair
abbrev pub RulePair : Type 0
RulePair = RewriteRule × RewriteRule

-- the left sides are coprime, the pair is in the list, or it is joinable
abbrev pub IsJoinableOrListed : List RewriteRule → List RulePair → RewriteRule → RewriteRule → Type 0
IsJoinableOrListed R pairs r s = AreCoprime r.left s.left ⊎ (Contains pairs (r, s) ⊎ HasJoinablePair R r s)

-- r and s are connected by rules whose left sides divide l: the left sides of each two neighbours are coprime, or their
-- pair is listed or joinable
pub data AreConnected (R : List RewriteRule) (pairs : List RulePair) (l : Exponents) :
    RewriteRule → RewriteRule → Type 0 where
  directly : {r s : RewriteRule} → IsJoinableOrListed R pairs r s → AreConnected R pairs l r s
  turned : {r s : RewriteRule} → AreConnected R pairs l s r → AreConnected R pairs l r s
  through : {r s : RewriteRule} (t : RewriteRule) → Contains R t → Divides t.left l →
      AreConnected R pairs l r t → AreConnected R pairs l t s → AreConnected R pairs l r s

-- the same, with the least common multiple of the left sides
abbrev pub HasConnectedPair : List RewriteRule → List RulePair → RewriteRule → RewriteRule → Type 0
HasConnectedPair R pairs r s = AreConnected R pairs (least_common_multiple r.left s.left) r s

-- the pairs in the list have degrees above c
abbrev pub AreAbove : MonomialOrder → ℕ → List RulePair → Type 0
AreAbove O c pairs = (r s : RewriteRule) → Contains pairs (r, s) → c < O.degree (least_common_multiple r.left s.left)

-- Each lead, written in the x, is joinable with its letter, each member of Z rewrites to zero, and each two rules are
-- connected if the pairs in the list count as joinable.
pub record IsCompletion (IsZero : Exponents → Type 0) (Z : List Exponents) (L : Letters) (R : List RewriteRule)
    (listed : List RulePair) : Type 0 where
  pub rules : AreRewriteRules IsZero L R
  pub leads : (i : ℕ) → i < length L.leads → AreJoinable R (Some (get_or L.leads i [])) (Some (lead_letter L i))
  pub zeros : (z : Exponents) → Contains Z z → Rewrites R (Some z) None
  pub pairs : AllPairs (HasConnectedPair R listed) R

-- the list `new` has the pairs of `old`, and with it the rules are connected with one more, t
pub record HasPairsWith (R : List RewriteRule) (t : RewriteRule) (old new : List RulePair) : Type 0 where
  pub keeps : (p : RulePair) → Contains old p → Contains new p
  pub each : (r : RewriteRule) → Contains R r → HasConnectedPair (R ++ t ∷ []) new r t

-- each lead is rewritten to its letter; the first letter is at the place n
abbrev pub lead_rules : ℕ → List Exponents → List RewriteRule
lead_rules n [] = []
lead_rules n (m ∷ ms) = record { left = m; right = Some (variable n) } ∷ lead_rules (suc n) ms

abbrev pub zero_rules : List Exponents → List RewriteRule
zero_rules Z = map (λ z. record { left = z; right = None }) Z

-- the rules that a completion begins with
abbrev pub first_rules : List Exponents → Letters → List RewriteRule
first_rules Z L = lead_rules (length L.degrees) L.leads ++ zero_rules Z

-- the rule rewrites one of u and v to the other
abbrev pub Orients : RewriteRule → WordOrZero → WordOrZero → Type 0
Orients t u v = ((Some t.left ≡ u) × (t.right ≡ v)) ⊎ ((Some t.left ≡ v) × (t.right ≡ u))

-- the rules of a new lead, behind those of L, and of a new zero, that rewrite to the word u
abbrev pub lead_rule_of : Letters → Exponents → RewriteRule
lead_rule_of L u = record { left = u; right = Some (lead_letter L (length L.leads)) }

abbrev pub zero_rule_of : Exponents → RewriteRule
zero_rule_of u = record { left = u; right = None }
