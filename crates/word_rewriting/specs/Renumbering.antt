-- The leads at the end, all of one degree, are numbered again.
use Rattle.std.specs.Prelude.{◌≡◌, ◌≢◌, ◌⊎◌, ◌↔◌, ℕ, ◌+◌, ◌<◌, List, [], length, get_or, Contains, AllPairs, Some, None}
use Rattle.monomial_order.specs.Monomial.{Exponents, IsMonomial, weighted_degree}
use Rattle.word_laws.specs.Words.{Letters, IsWord}
use Rattle.word_rewriting.specs.Rewriting.{WordOrZero, RewriteRule}
use Rattle.word_rewriting.specs.Completeness.{lead_letter}

-- different monomials in the x, other than 1, of degree d
pub record AreLastLeads (L : Letters) (d : ℕ) (leads : List Exponents) : Type 0 where
  pub in_x : (m : Exponents) → Contains leads m → IsMonomial (length L.degrees) m
  pub not_one : (m : Exponents) → Contains leads m → m ≢ []
  pub degree : (m : Exponents) → Contains leads m → weighted_degree L.degrees m ≡ d
  pub distinct : AllPairs (λ m n. m ≢ n) leads

-- the same leads of degree d, in another order
pub record AreRenumbered (L : Letters) (d : ℕ) (before after : List Exponents) : Type 0 where
  pub old_leads : AreLastLeads L d before
  pub new_leads : AreLastLeads L d after
  pub members : (m : Exponents) → Contains before m ↔ Contains after m

module _ (L : Letters) (before after : List Exponents) where
  -- v and w are the old and the new letter of one lead
  pub record AreLettersOfOneLead (v w : Exponents) : Type 0 where
    pub old : ℕ
    pub new : ℕ
    pub old_within : old < length before
    pub new_within : new < length after
    pub lead : get_or before old [] ≡ get_or after new []
    pub old_letter : v ≡ lead_letter L (length L.leads + old)
    pub new_letter : w ≡ lead_letter L (length L.leads + new)

  -- a word without a letter of these leads stays, and a letter of these leads becomes the new one
  abbrev pub IsRenumbered : Exponents → Exponents → Type 0
  IsRenumbered v w = (IsWord L v × (v ≡ w)) ⊎ AreLettersOfOneLead v w

  abbrev pub IsRenumberedSide : WordOrZero → WordOrZero → Type 0
  IsRenumberedSide None None = Unit {0}
  IsRenumberedSide None (Some w) = ⊥
  IsRenumberedSide (Some v) None = ⊥
  IsRenumberedSide (Some v) (Some w) = IsRenumbered v w

  abbrev pub IsRenumberedRule : RewriteRule → RewriteRule → Type 0
  IsRenumberedRule r s = IsRenumbered r.left s.left × IsRenumberedSide r.right s.right

  -- S has the renumbered rules of R
  pub record AreRenumberedRules (R S : List RewriteRule) : Type 0 where
    pub each : (s : RewriteRule) → Contains S s → (r : RewriteRule) × Contains R r × IsRenumberedRule r s
    pub all : (r : RewriteRule) → Contains R r → (s : RewriteRule) × Contains S s × IsRenumberedRule r s
