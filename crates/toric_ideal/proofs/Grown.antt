-- The end of a degree.
use Rattle.std.proofs.Common.{◌≡◌, ℕ, suc, ◌+◌, ◌-◌, ◌<◌, ◌≤◌, refl, sym, ◌∙◌, ap, subst, List, [], length, length-append, take, take-take, get_or, arith, inl, inr, ⊎_elim, Some, None}
use Rattle.std.specs.Prelude.{Contains}
use Rattle.std.proofs.lemmas.List.{get_or-take, take_all, length-take-le}
use Rattle.std.proofs.Math.Seq.{get_or-append_right}
use Rattle.monomial_order.specs.Monomial.{Exponents, Divides, IsMultiple, least_common_multiple as lcm}
use Rattle.monomial_order.specs.laws.Comparing.{degree_falls, divisor_degree, le_or_not}
use Rattle.monomial_order.specs.laws.Lists.{contains_at, contains_either, contains_none}
use Rattle.word_laws.specs.Words.{Letters, AreLetters, word_order_of}
use Rattle.word_laws.specs.laws.Words.{word_laws}
use Rattle.word_rewriting.specs.Rewriting.{WordOrZero, RewriteRule, IsInNormalForm}
use Rattle.word_rewriting.specs.Completeness.{AreInX, GeneratesReducible, IsRightSide}
use Rattle.word_rules.specs.Rules.{no_rule, rule_at}
use Rattle.toric_ideal.specs.Rewriting.{AreExactRules}
use Rattle.toric_ideal.specs.Queue.{pair, JoinsOrLists}
use Rattle.toric_ideal.specs.Step.{pair_degree, AreSmallRules, HaveDegreesTo, IsCleaned, IsGrowing, IsExtension, IsGrown, IsStep, AreSmallWords, KeepsFirst, ZerosVanish}
use Rattle.toric_ideal.proofs.DegreeStep.{IsDone, step_generates, step_low, step_start}
use Rattle.toric_ideal.proofs.Cleaning.{rule_index, same_lefts}
use Rattle.toric_ideal.proofs.JoiningPairs.{keeps_first_trans, same_rule}

module _ (L : Letters) (H : AreLetters L) (Z : List Exponents) (in_x : AreInX L Z) (c : ℕ) where
  next : c + 1 ≡ suc c
  next = omega arith

  pub growing_start : (S : List RewriteRule) → AreExactRules L Z c S → IsGrowing L Z c (length S) S
  growing_start S e = record {
    within = omega arith;
    exact = subst (AreExactRules L Z c) (sym whole) e;
    step = subst (λ R. IsStep L Z (c + 1) R S) (sym whole) (step_start L H Z in_x c (c + 1) next S e);
  }
    where
      whole : take (length S) S ≡ S
      whole = take_all (length S) S (omega arith)

  module _ (first : ℕ) (S : List RewriteRule) (g : IsGrowing L Z c first S) where
    growing_low : (r : RewriteRule) → Contains S r → (word_order_of L).degree r.left ≤ c + 1
    growing_low r h = step_low L H Z in_x c (c + 1) next (take first S) g.exact S g.step r h

    pub growing_small : c + 1 ≤ 30000 → AreSmallRules L Z S
    growing_small l = record { rules = g.step.rules; small = λ r h. let d = growing_low r h in omega arith }

    in_first : (k : ℕ) → k < first → Contains (take first S) (rule_at S k)
    in_first k l =
        let n = length-take-le first S g.within in
        subst (Contains (take first S)) (get_or-take first S k no_rule l) (contains_at (take first S) k no_rule (omega arith))

    -- right sides of smaller degrees stay in normal form
    pub first_normal : (k : ℕ) → k < first → IsInNormalForm S (rule_at S k).right
    first_normal k l = by_right (rule_at S k).right (g.exact.reduced.right (rule_at S k) (in_first k l)) (g.exact.rules (rule_at S k) (in_first k l)).1
      where
        d : (word_order_of L).degree (rule_at S k).left ≤ c
        d = g.exact.degree (rule_at S k) (in_first k l)

        by_right : (a : WordOrZero) → IsInNormalForm (take first S) a → IsRightSide (IsMultiple Z) L (rule_at S k).left a → IsInNormalForm S a
        by_right None n r = tt
        by_right (Some w) n r = λ x.
            ⊎_elim (λ h. n (x.0, h, x.2))
            (λ h.
            let e = g.step.degree x.0 h in
            let f = degree_falls (word_order_of L) (word_laws L H) w (rule_at S k).left r.less in
            let b = divisor_degree (word_order_of L) (word_laws L H) x.0.left w (g.step.rules x.0 x.1).0.trimmed r.word.trimmed x.2 in
            let q = d in
            absurd (omega arith))
            (contains_either (take first S) g.step.more x.0 (subst (λ xs. Contains xs x.0) g.step.whole x.1))

    old_rule : (i : ℕ) → i < first → rule_at (take first S) i ≡ rule_at S i
    old_rule i l = get_or-take first S i no_rule l

    pub growing_generates : HaveDegreesTo c L → ZerosVanish L (c + 1) S Z → JoinsOrLists (word_order_of L) (c + 1) first S S [] → GeneratesReducible (IsMultiple Z) L S (c + 1)
    growing_generates low vanish joins =
        step_generates L H Z in_x c (c + 1) next (take first S) g.exact S g.step low vanish
        (λ i j l m e.
        let n = length-take-le first S g.within in
        let b : j < first = omega arith in
        let a : i < first = omega arith in
        let x = old_rule i a in
        let y = old_rule j b in
        let q : pair_degree (word_order_of L) (take first S) i j ≡ pair_degree (word_order_of L) S i j =
        ap (λ (r : RewriteRule). (word_order_of L).degree (lcm r.left (rule_at (take first S) j).left)) x ∙ ap (λ (r : RewriteRule). (word_order_of L).degree (lcm (rule_at S i).left r.left)) y in
        let r = joins i j l b (sym q ∙ e) in
        subst (λ r. AreCoprimeOr r (rule_at (take first S) j)) (sym x) (subst (λ r. AreCoprimeOr (rule_at S i) r) (sym y)
        (⊎_elim (λ h. ⊎_elim (λ p. inl p) (λ p. inr (inl p)) h) (λ h. ⊎_elim (λ z. absurd (contains_none (pair i j) z)) (λ p. inr (inr p)) h) r)))
      where
        AreCoprimeOr : RewriteRule → RewriteRule → Type 0
        AreCoprimeOr = IsDone L H Z in_x c (c + 1) next (take first S) g.exact S

    -- the rules of the degree, once their right sides are rewritten
    pub grown_is : GeneratesReducible (IsMultiple Z) L S (c + 1) → (T : List RewriteRule) → IsCleaned L Z S T (length S) → AreExactRules L Z (c + 1) T
    grown_is generates T k = record {
      rules = k.rules;
      reduced = record {
        right = λ r h.
            let x = rule_index T r h in
            let l = x.1 in
            subst (λ (y : RewriteRule). IsInNormalForm T y.right) x.2
            (same_lefts S T k.number k.lefts (rule_at T x.0).right (k.normal x.0 (let n = k.number in omega arith)));
        left = λ r s h i e.
            let x = rule_index T r h in
            let y = rule_index T s i in
            let lx = x.1 in let ly = y.1 in let n = k.number in
            let p : r.left ≡ (rule_at S x.0).left = ap (λ (z : RewriteRule). z.left) (sym x.2) ∙ k.lefts x.0 in
            let q : s.left ≡ (rule_at S y.0).left = ap (λ (z : RewriteRule). z.left) (sym y.2) ∙ k.lefts y.0 in
            q ∙ (g.step.apart (rule_at S x.0) (rule_at S y.0) (contains_at S x.0 no_rule (omega arith)) (contains_at S y.0 no_rule (omega arith))
            (subst (λ u. Divides u (rule_at S x.0).left) q (subst (Divides s.left) p e)) ∙ sym p);
      };
      generates = λ w hw d red.
          let x = generates w hw d red in
          let y = rule_index S x.0 x.1 in
          let l = y.1 in let n = k.number in
          (rule_at T y.0, contains_at T y.0 no_rule (omega arith), subst (λ u. Divides u w) (sym (k.lefts y.0)) (subst (λ (z : RewriteRule). Divides z.left w) (sym y.2) x.2));
      degree = λ r h.
          let x = rule_index T r h in
          let l = x.1 in let n = k.number in
          subst (λ (z : RewriteRule). (word_order_of L).degree z.left ≤ c + 1) x.2 (subst (λ u. (word_order_of L).degree u ≤ c + 1) (sym (k.lefts x.0)) (growing_low (rule_at S x.0) (contains_at S x.0 no_rule (omega arith))));
    }

    pub grown_fresh : (T : List RewriteRule) → IsCleaned L Z S T (length S) → (k : ℕ) → first ≤ k → k < length T → (word_order_of L).degree (rule_at T k).left ≡ c + 1
    grown_fresh T h k a b =
        let n = h.number in
        let m = length-take-le first S g.within in
        let whole : length S ≡ first + length g.step.more = ap length g.step.whole ∙ (length-append (take first S) g.step.more ∙ ap (λ x. x + length g.step.more) m) in
        let e : rule_at S k ≡ get_or g.step.more (k - first) no_rule =
        ap (λ xs. get_or xs k no_rule) g.step.whole ∙ (get_or-append_right (take first S) g.step.more k no_rule (omega arith) ∙ ap (λ x. get_or g.step.more (k - x) no_rule) m) in
        ap (word_order_of L).degree (h.lefts k) ∙ g.step.degree (rule_at S k) (subst (Contains g.step.more) (sym e) (contains_at g.step.more (k - first) no_rule (omega arith)))

-- degree by degree
pub extension_start : (L : Letters) (Z : List Exponents) (c : ℕ) (S : List RewriteRule) → AreExactRules L Z c S → IsExtension L Z c c S S
extension_start L Z c S e = record { exact = e; keeps = record { within = omega arith; same = refl }; fresh = λ k a b. absurd (omega arith) }

pub keeps_below : (R S T : List RewriteRule) → length R ≤ length S → KeepsFirst (length S) S T → KeepsFirst (length R) S T
keeps_below R S T l k = record {
  within = let w = k.within in omega arith;
  same = sym (take-take (length R) (length S) T l) ∙ (ap (take (length R)) k.same ∙ take-take (length R) (length S) S l);
}

pub extension_next : (L : Letters) (Z : List Exponents) (c d : ℕ) (R S T : List RewriteRule) → c ≤ d → IsExtension L Z c d R S → IsGrown L Z d S T → IsExtension L Z c (d + 1) R T
extension_next L Z c d R S T l x g = record {
  exact = g.exact;
  keeps = keeps_first_trans (length R) R S T x.keeps (keeps_below R S T x.keeps.within g.keeps);
  fresh = λ k a b. ⊎_elim
      (λ (m : suc k ≤ length S). subst (λ (r : RewriteRule). c < (word_order_of L).degree r.left) (sym (same_rule (length S) S T g.keeps k m)) (x.fresh k a m))
      (λ m. let e = g.fresh k (omega (arith, m)) b in omega arith)
      (le_or_not (suc k) (length S));
}

pub exact_small : (L : Letters) (Z : List Exponents) (c : ℕ) (S : List RewriteRule) → c ≤ 30000 → AreExactRules L Z c S → AreSmallWords L S
exact_small L Z c S l e r h = let d = e.degree r h in ((e.rules r h).0, omega arith)
