-- Rules that share a letter.
use Rattle.std.proofs.Common.{◌≡◌, ◌≢◌, ℕ, ◌+◌, ◌≤◌, ◌<◌, refl, sym, ◌∙◌, subst, List, [], length, arith, get_or, below_more, ◌⊎◌, inl, inr, ⊎_elim}
use Rattle.std.specs.Prelude.{Contains}
use Rattle.std.proofs.lemmas.List.{get_or_default}
use Rattle.monomial_order.specs.Monomial.{Exponents, exponent, AreCoprime}
use Rattle.monomial_order.specs.laws.Comparing.{numbers_or_not}
use Rattle.monomial_order.specs.laws.Lists.{contains_at, contains_none, find_member}
use Rattle.word_rules.specs.declared.buckets.Buckets.{Buckets}
use Rattle.word_rules.specs.declared.pairs.PairIndex.{PairIndex}
use Rattle.word_rules.specs.declared.word_rule.WordRule.{WordRule}
use Rattle.word_rules.specs.Index.{IsIndexFor, bucket, lefts_of, list_at, rules_of}
use Rattle.word_rules.specs.Rules.{AreSharing, rule_at}
use Rattle.word_rules.specs.Sharing.{AddsAll, AddsLetter, AreDifferent, HasLetter, IsMarked}
use Rattle.word_rules.proofs.Lefts.{left_is}
use Rattle.word_rules.proofs.LetterLists.{AreLettersOf}
use Rattle.word_rules.proofs.Marking.{no_marks}

contains_or_not : (xs : List ℕ) (i : ℕ) → Contains xs i ⊎ (Contains xs i → ⊥)
contains_or_not xs i =
    ⊎_elim (λ h. inl (subst (Contains xs) h.2 h.1)) (λ h. inr (λ k. h i k refl)) (find_member (λ v. v ≡ i) (λ v. numbers_or_not v i) xs)

-- letter by letter
module _ (lefts : List Exponents) (letter j : ℕ) where
  -- the indexes so far are listed, if they have the letter
  abbrev pub AreMarkedSoFar : List ℕ → ℕ → List ℕ → List ℕ → Type 0
  AreMarkedSoFar items n start m =
      AddsLetter lefts letter j start m × ((k : ℕ) → k < n → get_or items k 0 < j → HasLetter lefts letter (get_or items k 0) → Contains m (get_or items k 0))

  pub none_marked : (items m : List ℕ) → AreMarkedSoFar items 0 m m
  none_marked items m = (record { keeps = λ k c. c; only = λ k c. inr c; once = λ h. h }, λ k l. absurd (omega arith))

  pub more_marked : (items : List ℕ) (n : ℕ) (start m new : List ℕ) → AreMarkedSoFar items n start m → IsMarked (get_or items n 0) m new → get_or items n 0 < j →
      HasLetter lefts letter (get_or items n 0) → AreMarkedSoFar items (n + 1) start new
  more_marked items n start m new h q l has = (
    record {
      keeps = λ k c. q.keeps k (h.0.keeps k c);
      only = λ k c. ⊎_elim (λ e. inl (subst (λ x. (x < j) × HasLetter lefts letter x) (sym e) (l, has))) (h.0.only k) (q.only k c);
      once = λ _. q.once;
    },
    below_more _ _ (λ k lt i e. q.keeps (get_or items k 0) (h.1 k lt i e)) (λ i e. q.here),
  )

  pub more_skipped : (items : List ℕ) (n : ℕ) (start m : List ℕ) → AreMarkedSoFar items n start m → (get_or items n 0 < j → HasLetter lefts letter (get_or items n 0) → ⊥) →
      AreMarkedSoFar items (n + 1) start m
  more_skipped items n start m h none = (h.0, below_more _ _ h.1 (λ l e. absurd (none l e)))

  pub all_marked : (b : Buckets) (p : PairIndex) (n : ℕ) (start m : List ℕ) → IsIndexFor lefts b p → length (bucket b letter) ≤ n →
      AreMarkedSoFar (bucket b letter) n start m → AddsAll lefts letter j start m
  all_marked b p n start m x l h = record {
    adds = h.0;
    all = λ k below known has.
        let c = x.listed k letter known has in
        let e : get_or (bucket b letter) c.0 0 ≡ k = get_or_default (bucket b letter) c.0 0 k c.1 ∙ c.2 in
        subst (Contains m) e
        (h.1 c.0 (let a = c.1 in omega (arith, l)) (subst (λ y. y < j) (sym e) below) (subst (HasLetter lefts letter) (sym e) has));
  }

-- the left sides listed share a letter with that of rule j, and all are listed that share one of the letters so far
pub record AreSharedSoFar (lefts : List Exponents) (j : ℕ) (letters : List ℕ) (n : ℕ) (m : List ℕ) : Type 0 where
  pub below : (i : ℕ) → Contains m i → i < j
  pub share : (i : ℕ) → Contains m i → AreCoprime (list_at lefts i) (list_at lefts j) → ⊥
  pub all : (k : ℕ) → k < n → (i : ℕ) → i < j → HasLetter lefts (get_or letters k 0) i → Contains m i
  pub once : AreDifferent m

module _ (lefts : List Exponents) (j : ℕ) (letters : List ℕ) where
  pub none_shared : AreSharedSoFar lefts j letters 0 []
  none_shared = record { below = λ i c. absurd (contains_none i c); share = λ i c. absurd (contains_none i c); all = λ k l. absurd (omega arith); once = no_marks.once }

  pub more_shared : (n : ℕ) (m new : List ℕ) → j < length lefts → AreLettersOf (list_at lefts j) letters → n < length letters → AreSharedSoFar lefts j letters n m →
      AddsAll lefts (get_or letters n 0) j m new → AreSharedSoFar lefts j letters (n + 1) new
  more_shared n m new inside own l h q = record {
    below = λ i c. ⊎_elim (λ has. has.0) (h.below i) (q.adds.only i c);
    share = λ i c. ⊎_elim
        (λ has coprime. ⊎_elim has.1 ((own (get_or letters n 0)).0 (contains_at letters n 0 l)) (coprime (get_or letters n 0)))
        (h.share i) (q.adds.only i c);
    all = below_more _ _ (λ k lt i below has. q.adds.keeps i (h.all k lt i below has)) (λ i below has. q.all i below (omega arith) has);
    once = q.adds.once h.once;
  }

pub all_shared : (rules : List WordRule) (j : ℕ) (letters : List ℕ) (n : ℕ) (m : List ℕ) → AreLettersOf (list_at (lefts_of rules) j) letters → length letters ≤ n →
    AreSharedSoFar (lefts_of rules) j letters n m → AreSharing (rules_of rules) j m
all_shared rules j letters n m own l h = record {
  below = h.below;
  share = λ i c coprime. h.share i c (subst (λ v. AreCoprime v (list_at (lefts_of rules) j)) (sym (left_is rules i)) (subst (AreCoprime (rule_at (rules_of rules) i).left) (sym (left_is rules j)) coprime));
  all = λ i below. ⊎_elim inr
      (λ none. inl (subst (λ v. AreCoprime v (rule_at (rules_of rules) j).left) (left_is rules i) (subst (AreCoprime (list_at (lefts_of rules) i)) (left_is rules j) (coprime i below none))))
      (contains_or_not m i);
  once = h.once;
}
  where
    coprime : (i : ℕ) → i < j → (Contains m i → ⊥) → AreCoprime (list_at (lefts_of rules) i) (list_at (lefts_of rules) j)
    coprime i below none a =
        ⊎_elim inl
        (λ x. ⊎_elim inr
        (λ y.
        let c = (own a).1 y in
        let e : get_or letters c.0 0 ≡ a = get_or_default letters c.0 0 a c.1 ∙ c.2 in
        absurd (none (h.all c.0 (let k = c.1 in omega (arith, l)) i below (subst (λ b. exponent (list_at (lefts_of rules) i) b ≢ 0) (sym e) x))))
        (numbers_or_not (exponent (list_at (lefts_of rules) j) a) 0))
        (numbers_or_not (exponent (list_at (lefts_of rules) i) a) 0)
