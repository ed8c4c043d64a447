-- Rules for words with images, and what makes them complete.
use Rattle.std.specs.Prelude.{◌≡◌, ℕ, ◌+◌, ◌≤◌, ◌<◌, List, [], ◌++◌, length, get_or, Contains, Some, None}
use Rattle.monomial_order.specs.Monomial.{Exponents, IsMonomial, Divides, variable, weighted_degree}
use Rattle.word_laws.specs.Words.{Letters, word_order_of, image_of, IsWord, IsSmaller, IsReducible, IsLeast}
use Rattle.word_rewriting.specs.Rewriting.{WordOrZero, RewriteRule, Rewrites, AreJoinable, HasLeftDivisor, IsInNormalForm, JoinsPairs}

-- the letter of the lead at an index
abbrev pub lead_letter : Letters → ℕ → Exponents
lead_letter L i = variable (length L.degrees + i)

-- the letters of further leads come at the end
abbrev pub with_leads : Letters → List Exponents → Letters
with_leads L leads = record { degrees = L.degrees; leads = L.leads ++ leads }

-- the list has monomials in the x
abbrev pub AreInX : Letters → List Exponents → Type 0
AreInX L ms = (m : Exponents) → Contains ms m → IsMonomial (length L.degrees) m

-- `IsZero` says which monomials count as zero.
module _ (IsZero : Exponents → Type 0) (L : Letters) where
  -- a is a smaller word with the image of w, or zero if that image counts as zero
  abbrev pub IsRightSide : Exponents → WordOrZero → Type 0
  IsRightSide w None = IsZero (image_of L w)
  IsRightSide w (Some v) = IsSmaller L w v

  -- each left side is a word, with such a right side
  abbrev pub AreRewriteRules : List RewriteRule → Type 0
  AreRewriteRules R = (r : RewriteRule) → Contains R r → IsWord L r.left × IsRightSide r.left r.right

  -- a is a word with the image m, or zero if m counts as zero
  abbrev pub HasImage : Exponents → WordOrZero → Type 0
  HasImage m None = IsZero m
  HasImage m (Some w) = IsWord L w × (image_of L w ≡ m)

  -- a is the least word with the image m, or zero if m counts as zero
  abbrev pub IsLeastOrZero : Exponents → WordOrZero → Type 0
  IsLeastOrZero m None = IsZero m
  IsLeastOrZero m (Some v) = (¬ IsZero m) × IsLeast L m v

  -- up to the degree c each reducible word is a multiple of a left side
  abbrev pub GeneratesReducible : List RewriteRule → ℕ → Type 0
  GeneratesReducible R c = (w : Exponents) →
      IsWord L w → (word_order_of L).degree w ≤ c → IsReducible IsZero L w → HasLeftDivisor R w

  -- a reducible word of degree d that no rule rewrites
  pub record IsMissedWord (R : List RewriteRule) (d : ℕ) (w : Exponents) : Type 0 where
    pub word : IsWord L w
    pub degree : (word_order_of L).degree w ≡ d
    pub reducible : IsReducible IsZero L w
    pub missed : ¬ HasLeftDivisor R w

-- The multiples of Z count as zero. Up to the degree c each lead, written in the x, is joinable with its letter,
-- each member of Z rewrites to zero, and the critical pairs are joinable.
pub record AreComplete (Z : List Exponents) (L : Letters) (R : List RewriteRule) (c : ℕ) : Type 0 where
  pub leads : (i : ℕ) → i < length L.leads → weighted_degree L.degrees (get_or L.leads i []) ≤ c →
      AreJoinable R (Some (get_or L.leads i [])) (Some (lead_letter L i))
  pub zeros : (z : Exponents) → Contains Z z → weighted_degree L.degrees z ≤ c → Rewrites R (Some z) None
  pub pairs : JoinsPairs (word_order_of L) R c

-- the leads, the members of Z and the left sides have degrees of at most d
pub record HaveDegreesTo (Z : List Exponents) (L : Letters) (R : List RewriteRule) (d : ℕ) : Type 0 where
  pub leads : (m : Exponents) → Contains L.leads m → weighted_degree L.degrees m ≤ d
  pub zeros : (m : Exponents) → Contains Z m → weighted_degree L.degrees m ≤ d
  pub lefts : (r : RewriteRule) → Contains R r → (word_order_of L).degree r.left ≤ d

-- u is a left side, and no other left side divides it
pub record IsMinimalLeftSide (R : List RewriteRule) (u : Exponents) : Type 0 where
  pub rule : RewriteRule
  pub listed : Contains R rule
  pub left : rule.left ≡ u
  pub minimal : (s : RewriteRule) → Contains R s → Divides s.left u → s.left ≡ u

-- right sides are in normal form, and no left side divides another one
pub record AreReducedRules (R : List RewriteRule) : Type 0 where
  pub right : (r : RewriteRule) → Contains R r → IsInNormalForm R r.right
  pub left : (r s : RewriteRule) → Contains R r → Contains R s → Divides s.left r.left → s.left ≡ r.left
