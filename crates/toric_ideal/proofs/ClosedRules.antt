-- Rules whose pairs above the degree are joined.
use Rattle.std.proofs.Common.{◌≡◌, ◌≢◌, ℕ, suc, ◌+◌, ◌<◌, ◌≤◌, sym, ◌∙◌, subst, List, length, get_or, arith, inl, inr, ⊎_elim, ◌⊎◌, take}
use Rattle.std.specs.Prelude.{Contains}
use Rattle.monomial_order.specs.Monomial.{Exponents, IsMultiple, AreCoprime, least_common_multiple as lcm}
use Rattle.monomial_order.specs.MonomialOrder.{MonomialOrder}
use Rattle.monomial_order.specs.laws.Lists.{contains_at}
use Rattle.word_laws.specs.Words.{Letters, AreLetters, word_order_of, image_of}
use Rattle.word_laws.specs.laws.Reducible.{multiple_closed}
use Rattle.word_rewriting.specs.Rewriting.{WordOrZero, RewriteRule, Rewrites, HasJoinablePair}
use Rattle.word_rewriting.specs.laws.Criterion.{decreasing_rules}
use Rattle.word_rewriting.specs.laws.NormalForms.{difference_shows, pair_images}
use Rattle.word_rewriting.specs.laws.Pairs.{joinable_pair}
use Rattle.word_rules.specs.Rules.{no_rule, rule_at, AreDecreasing, ArePairForms, AreSharing, IsSmallWord}
use Rattle.toric_ideal.specs.Closing.{CanClose, IsPairJoined, JoinsPairsOf, ShowsMissedWord}
use Rattle.toric_ideal.proofs.Grown.{exact_small}
use Rattle.toric_ideal.proofs.QueuedPairs.{lcm_small}
use Rattle.toric_ideal.proofs.Members.{take_next, take_whole}

module _ (L : Letters) (H : AreLetters L) (Z : List Exponents) (c : ℕ) (R : List RewriteRule) (k : CanClose L Z c R) where
  pub closing_decreasing : AreDecreasing (word_order_of L) R
  closing_decreasing = decreasing_rules (IsMultiple Z) L R k.exact.rules

  pub closing_lcm : (i j : ℕ) → i < length R → j < length R → IsSmallWord (word_order_of L) (lcm (rule_at R i).left (rule_at R j).left)
  closing_lcm i j li lj = lcm_small L H R (exact_small L Z c R (let s = k.small in omega arith) k.exact) i j li lj

  pub forms_join : (i j : ℕ) (u v : WordOrZero) → ArePairForms R (rule_at R i) (rule_at R j) u v → u ≡ v → HasJoinablePair R (rule_at R i) (rule_at R j)
  forms_join i j u v f e = joinable_pair R (rule_at R i) (rule_at R j) f.first f.second f.pair (v, subst (Rewrites R f.first) e f.first_form.rewrites, f.second_form.rewrites)

  pub forms_show : (i j : ℕ) → i < length R → j < length R → (u v : WordOrZero) → ArePairForms R (rule_at R i) (rule_at R j) u v → u ≢ v → ShowsMissedWord L Z R
  forms_show i j li lj u v f ne =
      let p = pair_images (IsMultiple Z) L H R k.exact.rules (multiple_closed (length L.degrees) Z) (rule_at R i) (rule_at R j) (contains_at R i no_rule li) (contains_at R j no_rule lj) f.first f.second f.pair in
      let x = difference_shows (IsMultiple Z) L H R k.exact.rules (multiple_closed (length L.degrees) Z) (image_of L (lcm (rule_at R i).left (rule_at R j).left)) f.first f.second u v p.0 p.1 f.first_form f.second_form ne in
      (x.0, x.1.word, x.1.reducible, x.1.missed)

-- the pairs of rule j with these rules are joined
abbrev pub JoinsThese : MonomialOrder → ℕ → List RewriteRule → ℕ → List ℕ → Type 0
JoinsThese O c R j done = (i : ℕ) → Contains done i → IsPairJoined O c R i j

module _ (O : MonomialOrder) (c : ℕ) (R : List RewriteRule) (j : ℕ) where
  pub these_next : (list : List ℕ) (n i : ℕ) → n < length list → get_or list n 0 ≡ i → IsPairJoined O c R i j → JoinsThese O c R j (take n list) → JoinsThese O c R j (take (n + 1) list)
  these_next list n i l e p h m x =
      ⊎_elim (λ q. subst (λ z. IsPairJoined O c R z j) (sym e ∙ q) p) (λ y. h m y)
      (take_next list n 0 l m (subst (λ z. Contains (take z list) m) (let o : n + 1 ≡ suc n = omega arith in o) x))

  pub these_all : (list items : List ℕ) (n : ℕ) → items ≡ list → AreSharing R j list → length items ≤ n → JoinsThese O c R j (take n items) → JoinsPairsOf O c R j
  these_all list items n e s l h i b =
      ⊎_elim inl (λ x. inr (h i (take_whole items n l i (subst (λ xs. Contains xs i) (sym e) x)))) (s.all i b)

-- and so are all pairs to every degree
pub all_pairs_joined : (L : Letters) (H : AreLetters L) (Z : List Exponents) (c : ℕ) (R : List RewriteRule) → CanClose L Z c R → ((j : ℕ) → j < length R → JoinsPairsOf (word_order_of L) c R j) →
    (i j : ℕ) → i < j → j < length R → AreCoprime (rule_at R i).left (rule_at R j).left ⊎ IsPairJoined (word_order_of L) c R i j
all_pairs_joined L H Z c R k h i j l m = h j m i l
