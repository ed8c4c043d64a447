-- The laws. The contracts say of which letters, zeros and rules each of them holds.
use Rattle.std.specs.Prelude.{◌≡◌, ◌≢◌, ◌⊎◌, ◌↔◌, ℕ, ◌+◌, ◌≤◌, ◌<◌, List, [], ◌∷◌, ◌++◌, length, get_or, Contains, AllPairs, Some, None}
use Rattle.monomial_order.specs.Monomial.{Exponents, IsMonomial, IsMultiple, Divides, AreCoprime, least_common_multiple, weighted_degree}
use Rattle.word_laws.specs.Words.{Letters, AreLetters, word_order_of, image_of, IsWord, IsSWord, IsSmaller, IsReducible, IsMinimalReducible, IsLeast}
use Rattle.word_rewriting.specs.Rewriting.{WordOrZero, RewriteRule, Rewrites, AreJoinable, HasLeftDivisor, IsInNormalForm, IsNormalForm, IsCriticalPair, HasJoinablePair, JoinsPair, JoinsPairs, KeepsRules}
use Rattle.word_rewriting.specs.Renumbering.{AreRenumbered, AreRenumberedRules, IsRenumbered}
use Rattle.word_rewriting.specs.Completion.{RulePair, HasConnectedPair, AreAbove, IsCompletion, HasPairsWith, first_rules, Orients, lead_rule_of, zero_rule_of}
use Rattle.word_rewriting.specs.Completeness.{lead_letter, with_leads, AreInX, AreRewriteRules, HasImage, IsLeastOrZero, IsRightSide, GeneratesReducible, IsMissedWord, AreComplete, HaveDegreesTo, IsMinimalLeftSide, AreReducedRules}

-- What a law holds of: rules R over letters L, with the multiples of Z as zero.
abbrev pub ForRules : (List Exponents → Letters → List RewriteRule → Type 0) → Type 0
ForRules Law = (Z : List Exponents) (L : Letters) (R : List RewriteRule) →
    AreLetters L → AreRewriteRules (IsMultiple Z) L R → Law Z L R

-- rules whose left sides generate the reducible words to the degree c
abbrev pub ForGeneratingRules : (List Exponents → Letters → List RewriteRule → ℕ → Type 0) → Type 0
ForGeneratingRules Law = (Z : List Exponents) (L : Letters) (R : List RewriteRule) (c : ℕ) →
    AreLetters L → AreRewriteRules (IsMultiple Z) L R → GeneratesReducible (IsMultiple Z) L R c → Law Z L R c

module _ (Z : List Exponents) (L : Letters) (R : List RewriteRule) where
  -- rules are complete to a degree exactly if their left sides generate the reducible words to that degree
  abbrev pub CompletenessIsExact : Type 0
  CompletenessIsExact = AreInX L Z → (c : ℕ) → AreComplete Z L R c ↔ GeneratesReducible (IsMultiple Z) L R c

  -- if nothing has a degree above d, rules are complete to d + d exactly if the reducible words of every degree are the
  -- multiples of the left sides
  abbrev pub TwiceTheDegreeIsEnough : Type 0
  TwiceTheDegreeIsEnough = AreInX L Z → (d : ℕ) → HaveDegreesTo Z L R d →
      AreComplete Z L R (d + d) ↔
      ((w : Exponents) → IsWord L w → IsReducible (IsMultiple Z) L w ↔ HasLeftDivisor R w)

  -- and if the left sides generate the reducible words to d, exactly if each reducible word is a multiple of one of
  -- degree at most d
  abbrev pub CompleteIfClosed : Type 0
  CompleteIfClosed = AreInX L Z → (d : ℕ) → HaveDegreesTo Z L R d → GeneratesReducible (IsMultiple Z) L R d →
      AreComplete Z L R (d + d) ↔
      ((w : Exponents) → IsWord L w → IsReducible (IsMultiple Z) L w →
      (v : Exponents) × IsWord L v × IsReducible (IsMultiple Z) L v × Divides v w × ((word_order_of L).degree v ≤ d))

  -- the critical pair of rules with coprime left sides is joinable
  abbrev pub CoprimePairsAreJoinable : Type 0
  CoprimePairsAreJoinable = (r s : RewriteRule) → Contains R r → Contains R s → AreCoprime r.left s.left →
      HasJoinablePair R r s

  -- it is enough to join the pairs of each rule with the later ones whose left sides are not coprime to its own
  abbrev pub LaterPairsAreEnough : Type 0
  LaterPairsAreEnough = (c : ℕ) →
      AllPairs (λ r s. ¬ AreCoprime r.left s.left → JoinsPair (word_order_of L) R c r s) R →
      JoinsPairs (word_order_of L) R c

  -- it is also enough that each two rules are connected, if the listed pairs are above the degree
  abbrev pub ConnectedPairsAreEnough : Type 0
  ConnectedPairsAreEnough = (c : ℕ) (listed : List RulePair) → AreAbove (word_order_of L) c listed →
      AllPairs (HasConnectedPair R listed) R → JoinsPairs (word_order_of L) R c

  -- each two rules have a critical pair
  abbrev pub CriticalPairsExist : Type 0
  CriticalPairsExist = (r s : RewriteRule) → Contains R r → Contains R s →
      (a : WordOrZero) × (b : WordOrZero) × IsCriticalPair r s a b

  -- both members of a critical pair have the image of the least common multiple
  abbrev pub PairsHaveOneImage : Type 0
  PairsHaveOneImage = (r s : RewriteRule) → Contains R r → Contains R s → (a b : WordOrZero) → IsCriticalPair r s a b →
      HasImage (IsMultiple Z) L (image_of L (least_common_multiple r.left s.left)) a ×
      HasImage (IsMultiple Z) L (image_of L (least_common_multiple r.left s.left)) b

  -- two normal forms of one image that differ show a missed word
  abbrev pub DifferencesShowMissedWords : Type 0
  DifferencesShowMissedWords = (m : Exponents) (a b u v : WordOrZero) →
      HasImage (IsMultiple Z) L m a → HasImage (IsMultiple Z) L m b →
      IsNormalForm R a u → IsNormalForm R b v → u ≢ v →
      (w : Exponents) × IsMissedWord (IsMultiple Z) L R ((word_order_of L).degree m) w

  -- so does a critical pair that is not joinable
  abbrev pub PairsShowMissedWords : Type 0
  PairsShowMissedWords = (r s : RewriteRule) → Contains R r → Contains R s →
      (a b : WordOrZero) → IsCriticalPair r s a b → ¬ AreJoinable R a b →
      (w : Exponents) ×
      IsMissedWord (IsMultiple Z) L R ((word_order_of L).degree (least_common_multiple r.left s.left)) w

  -- each word has a normal form
  abbrev pub NormalFormsExist : Type 0
  NormalFormsExist = (w : Exponents) → IsWord L w → (a : WordOrZero) × IsNormalForm R (Some w) a

  -- to the degree c a normal form of a word is the least word with its image, or zero if that counts as zero
  abbrev pub NormalFormsAreLeast : ℕ → Type 0
  NormalFormsAreLeast c = (w : Exponents) → IsWord L w → (word_order_of L).degree w ≤ c →
      (a : WordOrZero) → IsNormalForm R (Some w) a → IsLeastOrZero (IsMultiple Z) L (image_of L w) a

  -- a normal form of a standard monomial m in the x is the least word with the image m, and it is an s-word exactly if
  -- some s-word has this image
  abbrev pub NormalFormsAreFactors : ℕ → Type 0
  NormalFormsAreFactors c = (m : Exponents) →
      IsMonomial (length L.degrees) m → weighted_degree L.degrees m ≤ c → ¬ IsMultiple Z m →
      (a : WordOrZero) → IsNormalForm R (Some m) a →
      (v : Exponents) × (a ≡ Some v) × IsLeast L m v ×
      (IsSWord L v ↔ ((u : Exponents) × IsSWord L u × (image_of L u ≡ m)))

  -- to the degree c the minimal reducible words are the minimal left sides
  abbrev pub MinimalLeftSidesAreExact : ℕ → Type 0
  MinimalLeftSidesAreExact c = (u : Exponents) → IsWord L u → (word_order_of L).degree u ≤ c →
      IsMinimalReducible (IsMultiple Z) L u ↔ IsMinimalLeftSide R u

  -- to the degree c the left sides of reduced rules are the minimal reducible words, each with the least word of its image
  abbrev pub ReducedRulesAreExact : ℕ → Type 0
  ReducedRulesAreExact c = AreReducedRules R → (r : RewriteRule) → Contains R r → (word_order_of L).degree r.left ≤ c →
      IsMinimalReducible (IsMultiple Z) L r.left × IsLeastOrZero (IsMultiple Z) L (image_of L r.left) r.right

  -- rules whose left sides divide those of R generate the reducible words to the degree c, as R does
  abbrev pub DivisorsGenerate : ℕ → Type 0
  DivisorsGenerate c = (S : List RewriteRule) →
      ((r : RewriteRule) → Contains R r → (word_order_of L).degree r.left ≤ c → HasLeftDivisor S r.left) →
      GeneratesReducible (IsMultiple Z) L S c

-- two rules have one critical pair
abbrev pub CriticalPairsAreUnique : Type 0
CriticalPairsAreUnique = (r s : RewriteRule) (a b x y : WordOrZero) →
    IsCriticalPair r s a b → IsCriticalPair r s x y → (a ≡ x) × (b ≡ y)

-- the chain criterion: a rule whose left side divides the least common multiple connects two others
abbrev pub ChainsConnect : List RewriteRule → List RulePair → Type 0
ChainsConnect R listed = (r t s : RewriteRule) →
    Contains R t → Divides t.left (least_common_multiple r.left s.left) →
    HasConnectedPair R listed r t → HasConnectedPair R listed t s → HasConnectedPair R listed r s

-- to each degree there are rules whose left sides generate the reducible words
abbrev pub RulesExist : List Exponents → Letters → Type 0
RulesExist Z L = (c : ℕ) →
    (R : List RewriteRule) × AreRewriteRules (IsMultiple Z) L R × GeneratesReducible (IsMultiple Z) L R c

-- what is joinable by R is joinable by S, which has all the rules of R
abbrev pub JoinableStays : List RewriteRule → List RewriteRule → Type 0
JoinableStays R S = KeepsRules R S → (a b : WordOrZero) → AreJoinable R a b → AreJoinable S a b

module _ (L : Letters) (leads : List Exponents) where
  -- rules stay rules with further leads and more zeros
  abbrev pub RulesStay : List Exponents → List Exponents → List RewriteRule → Type 0
  RulesStay Y Z R = ((z : Exponents) → Contains Y z → Contains Z z) →
      AreRewriteRules (IsMultiple Y) L R → AreRewriteRules (IsMultiple Z) (with_leads L leads) R

  -- the letter of a further lead is smaller than each older word with its image
  abbrev pub NewLettersAreSmaller : Type 0
  NewLettersAreSmaller = (j : ℕ) → j < length leads →
      (u : Exponents) → IsWord L u → image_of L u ≡ get_or leads j [] →
      IsSmaller (with_leads L leads) u (lead_letter L (length L.leads + j))

-- leads of degree d at the end, and the same ones in another order
abbrev pub ForRenumberedLeads : (Letters → ℕ → List Exponents → List Exponents → Type 0) → Type 0
ForRenumberedLeads Law = (L : Letters) (d : ℕ) (before after : List Exponents) →
    AreLetters L → AreRenumbered L d before after → Law L d before after

module _ (L : Letters) (d : ℕ) (before after : List Exponents) where
  -- to the degree d each word has one renumbered word, and this has the same image
  abbrev pub WordsAreRenumbered : Type 0
  WordsAreRenumbered = (v : Exponents) →
      IsWord (with_leads L before) v → (word_order_of (with_leads L before)).degree v ≤ d →
      (w : Exponents) × IsRenumbered L before after v w × IsWord (with_leads L after) w ×
      (image_of (with_leads L after) w ≡ image_of (with_leads L before) v) ×
      ((u : Exponents) → IsRenumbered L before after v u → u ≡ w)

  -- it is reducible exactly if the word is
  abbrev pub ReducibleWordsAreRenumbered : Type 0
  ReducibleWordsAreRenumbered = (Z : List Exponents) (v w : Exponents) →
      (word_order_of (with_leads L before)).degree v ≤ d → IsRenumbered L before after v w →
      IsReducible (IsMultiple Z) (with_leads L before) v ↔ IsReducible (IsMultiple Z) (with_leads L after) w

  -- and the least word with an image exactly if the word is
  abbrev pub LeastWordsAreRenumbered : Type 0
  LeastWordsAreRenumbered = (m v w : Exponents) →
      (word_order_of (with_leads L before)).degree v ≤ d → IsRenumbered L before after v w →
      IsLeast (with_leads L before) m v ↔ IsLeast (with_leads L after) m w

  -- renumbered rules are rules, and their left sides generate the reducible words to d if the old ones do
  abbrev pub RulesAreRenumbered : Type 0
  RulesAreRenumbered = (Z : List Exponents) (R S : List RewriteRule) →
      AreRewriteRules (IsMultiple Z) (with_leads L before) R → AreRenumberedRules L before after R S →
      AreRewriteRules (IsMultiple Z) (with_leads L after) S ×
      (GeneratesReducible (IsMultiple Z) (with_leads L before) R d →
      GeneratesReducible (IsMultiple Z) (with_leads L after) S d)

-- the state of a completion, with the multiples of Z as zero
abbrev pub ForCompletions : (List Exponents → Letters → List RewriteRule → List RulePair → Type 0) → Type 0
ForCompletions Law = (Z : List Exponents) (L : Letters) (R : List RewriteRule) (listed : List RulePair) →
    AreLetters L → IsCompletion (IsMultiple Z) Z L R listed → Law Z L R listed

module _ (Z : List Exponents) (L : Letters) where
  -- a completion begins with the rules of leads and zeros, and with their pairs
  abbrev pub CompletionsBegin : Type 0
  CompletionsBegin = AreInX L Z → (listed : List RulePair) →
      AllPairs (HasConnectedPair (first_rules Z L) listed) (first_rules Z L) →
      IsCompletion (IsMultiple Z) Z L (first_rules Z L) listed

  -- two normal forms of one image that differ are the sides of a rule
  abbrev pub DifferencesMakeRules : Type 0
  DifferencesMakeRules = (m : Exponents) (u v : WordOrZero) →
      HasImage (IsMultiple Z) L m u → HasImage (IsMultiple Z) L m v → u ≢ v →
      (t : RewriteRule) × Orients t u v × (IsWord L t.left × IsRightSide (IsMultiple Z) L t.left t.right)

module _ (Z : List Exponents) (L : Letters) (R : List RewriteRule) (listed : List RulePair) where
  -- a rule can be added, with its pairs
  abbrev pub RulesAreAdded : Type 0
  RulesAreAdded = (t : RewriteRule) (new : List RulePair) →
      IsWord L t.left × IsRightSide (IsMultiple Z) L t.left t.right → HasPairsWith R t listed new →
      IsCompletion (IsMultiple Z) Z L (R ++ t ∷ []) new

  -- pairs whose rules are connected without them, as joinable ones, can be left out of the list
  abbrev pub ConnectedPairsAreLeftOut : Type 0
  ConnectedPairsAreLeftOut = (new : List RulePair) →
      ((r s : RewriteRule) → Contains listed (r, s) → HasConnectedPair R new r s) →
      IsCompletion (IsMultiple Z) Z L R new

  -- if all pairs in the list are above the degree c, the rules are complete to c
  abbrev pub CompletionsEnd : Type 0
  CompletionsEnd = (c : ℕ) → AreAbove (word_order_of L) c listed → AreComplete Z L R c

  -- a lead m can be added at the end, with a rule that rewrites a word u, to which m rewrites, to its letter
  abbrev pub LeadsAreAdded : Type 0
  LeadsAreAdded = (new : List RulePair) (m u : Exponents) →
      IsMonomial (length L.degrees) m → m ≢ [] → Rewrites R (Some m) (Some u) →
      HasPairsWith R (lead_rule_of L u) listed new →
      IsCompletion (IsMultiple Z) Z (with_leads L (m ∷ [])) (R ++ lead_rule_of L u ∷ []) new

  -- zeros can be added if they rewrite to zero
  abbrev pub ZerosAreAdded : Type 0
  ZerosAreAdded = (Y : List Exponents) →
      ((z : Exponents) → Contains Z z → Contains Y z) → ((z : Exponents) → Contains Y z → Rewrites R (Some z) None) →
      IsCompletion (IsMultiple Y) Y L R listed

  -- or one with a rule that rewrites a word u, to which it rewrites, to zero
  abbrev pub ZeroRulesAreAdded : Type 0
  ZeroRulesAreAdded = (new : List RulePair) (z u : Exponents) →
      IsMonomial (length L.degrees) z → Rewrites R (Some z) (Some u) → HasPairsWith R (zero_rule_of u) listed new →
      IsCompletion (IsMultiple (Z ++ z ∷ [])) (Z ++ z ∷ []) L (R ++ zero_rule_of u ∷ []) new

-- the pairs of a rule whose left side is in normal form have a greater degree than that side
abbrev pub NewPairsAreAbove : Letters → List RewriteRule → Type 0
NewPairsAreAbove L R = (t : RewriteRule) → IsWord L t.left → IsInNormalForm R (Some t.left) →
    (r : RewriteRule) → Contains R r →
    (word_order_of L).degree t.left < (word_order_of L).degree (least_common_multiple r.left t.left)

-- what rewrites to u is joinable with what rewrites to v once there is a rule of u and v
abbrev pub OrientedRulesJoin : List RewriteRule → Type 0
OrientedRulesJoin R = (t : RewriteRule) (a b u v : WordOrZero) →
    Orients t u v → Rewrites R a u → Rewrites R b v → AreJoinable (R ++ t ∷ []) a b

-- rules whose left sides generate the reducible words to c go on with their pairs above c, if leads and zeros have
-- degrees of at most c
abbrev pub CompletionsGoOn : List Exponents → Letters → List RewriteRule → ℕ → Type 0
CompletionsGoOn Z L R c = AreInX L Z → (listed : List RulePair) →
    ((m : Exponents) → Contains L.leads m → weighted_degree L.degrees m ≤ c) →
    ((z : Exponents) → Contains Z z → weighted_degree L.degrees z ≤ c) →
    AllPairs (λ r s. c < (word_order_of L).degree (least_common_multiple r.left s.left) →
    AreCoprime r.left s.left ⊎ Contains listed (r, s)) R →
    IsCompletion (IsMultiple Z) Z L R listed
