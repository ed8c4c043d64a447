-- The pairs of rules that wait for their degree.
use Rattle.std.specs.Prelude.{◌≡◌, ◌⊎◌, ℕ, ◌≤◌, ◌<◌, List, length, Contains}
use Rattle.monomial_order.specs.Limits.{degree_max}
use Rattle.monomial_order.specs.Monomial.{AreCoprime}
use Rattle.monomial_order.specs.MonomialOrder.{MonomialOrder}
use Rattle.word_rewriting.specs.Rewriting.{RewriteRule, HasJoinablePair}
use Rattle.word_rules.specs.Rules.{rule_at}
use Rattle.degree_queue.specs.DegreeQueue.{list_of}
use Rattle.toric_ideal.specs.declared.index_pair.IndexPair.{IndexPair}
use Rattle.toric_ideal.specs.Step.{pair_degree, AreBothZero, IsPairAt}

abbrev pub pair : ℕ → ℕ → IndexPair
pair i j = record { first = i; second = j }

-- the left sides are coprime, or both rules go to zero
abbrev pub IsNeedlessPair : RewriteRule → RewriteRule → Type 0
IsNeedlessPair r s = AreCoprime r.left s.left ⊎ AreBothZero r s

-- the same, of the rules at two indexes
abbrev pub IsNeedless : List RewriteRule → ℕ → ℕ → Type 0
IsNeedless R i j = IsNeedlessPair (rule_at R i) (rule_at R j)

-- the pair of the rules at two indexes is in the queue, if it is needed and of a degree above c
abbrev pub IsQueuedPair : MonomialOrder → ℕ → List RewriteRule → List (List IndexPair) → ℕ → ℕ → Type 0
IsQueuedPair O c R queue i j = c < pair_degree O R i j → pair_degree O R i j ≤ degree_max →
    IsNeedless R i j ⊎ Contains (list_of queue (pair_degree O R i j)) (pair i j)

-- The queue has each pair of the first rules, so many, that is needed and of a degree above c, and only pairs of these.
pub record IsQueued (O : MonomialOrder) (c count : ℕ) (R : List RewriteRule) (queue : List (List IndexPair)) : Type 0 where
  pub within : count ≤ length R
  pub each : (d : ℕ) (p : IndexPair) → c < d → Contains (list_of queue d) p → IsPairAt O d count R p.first p.second
  pub all : (i j : ℕ) → i < j → j < count → IsQueuedPair O c R queue i j

-- each needed pair of degree d of the first rules, so many, is in the list, or joinable
abbrev pub JoinsOrLists : MonomialOrder → ℕ → ℕ → List RewriteRule → List RewriteRule → List IndexPair → Type 0
JoinsOrLists O d count R S pairs = (i j : ℕ) → i < j → j < count → pair_degree O R i j ≡ d →
    IsNeedless R i j ⊎ (Contains pairs (pair i j) ⊎ HasJoinablePair S (rule_at R i) (rule_at R j))

-- the queue with the pair of the rules at two indexes, if it is needed
pub record IsPairQueued (O : MonomialOrder) (c : ℕ) (R : List RewriteRule) (i j : ℕ) (old new : List (List IndexPair)) : Type 0 where
  pub keeps : (d : ℕ) (p : IndexPair) → Contains (list_of old d) p → Contains (list_of new d) p
  pub only : (d : ℕ) (p : IndexPair) → Contains (list_of new d) p →
      Contains (list_of old d) p ⊎ ((p ≡ pair i j) × (pair_degree O R i j ≡ d))
  pub queued : IsQueuedPair O c R new i j
