-- The rules of a listing to a greater degree.
use Rattle.std.proofs.Common.{◌≡◌, ℕ, suc, ◌<◌, ◌≤◌, refl, sym, ◌∙◌, ap, subst, List, ◌++◌, length, arith, ⊎_elim, Some, None}
use Rattle.std.specs.Prelude.{Contains}
use Rattle.std.proofs.lemmas.List.{map-append}
use Rattle.monomial_order.specs.Monomial.{Exponents, IsMultiple}
use Rattle.monomial_order.specs.MonomialOrder.{IsIncreasing}
use Rattle.monomial_order.specs.laws.Comparing.{le_or_not, increasing_append}
use Rattle.monomial_order.specs.laws.Lists.{contains_at, contains_either, contains_left, contains_map, contains_right, map_contains}
use Rattle.word_laws.specs.Words.{Letters, AreLetters, word_order_of, image_of}
use Rattle.word_laws.specs.laws.Words.{word_laws}
use Rattle.word_laws.specs.laws.Reducible.{multiple_closed, least_unique}
use Rattle.word_rewriting.specs.Rewriting.{WordOrZero, RewriteRule}
use Rattle.word_rewriting.specs.Completeness.{IsLeastOrZero}
use Rattle.word_rewriting.specs.laws.Complete.{reduced_exactly}
use Rattle.word_rules.specs.Rules.{no_rule, rule_at, IsSmallWord}
use Rattle.toric_ideal.specs.declared.rule.Rule.{Rule}
use Rattle.toric_ideal.specs.Listing.{AreRules}
use Rattle.toric_ideal.specs.Rewriting.{rewrite_rule, rewrite_rules, AreExactRules, AreSameRules}
use Rattle.toric_ideal.specs.SortedRules.{words_of, AreSortedRules}
use Rattle.toric_ideal.specs.Step.{IsExtension}
use Rattle.toric_ideal.proofs.Cleaning.{rule_index}
use Rattle.toric_ideal.proofs.ExactRules.{exact_rules}
use Rattle.toric_ideal.proofs.JoiningPairs.{same_rule}

module _ (L : Letters) (H : AreLetters L) (Z : List Exponents) where
  one_least : (m : Exponents) (a b : WordOrZero) → IsLeastOrZero (IsMultiple Z) L m a → IsLeastOrZero (IsMultiple Z) L m b → a ≡ b
  one_least m None None h k = refl
  one_least m None (Some v) h k = absurd (k.0 h)
  one_least m (Some u) None h k = absurd (h.0 k)
  one_least m (Some u) (Some v) h k = ap Some (least_unique L H m u v h.1 k.1)

  -- exact rules with the same left side are the same
  exact_unique : (d : ℕ) (R : List RewriteRule) → AreExactRules L Z d R → (r s : RewriteRule) → Contains R r → Contains R s → r.left ≡ s.left → r ≡ s
  exact_unique d R e r s hr hs q =
      let x = reduced_exactly (IsMultiple Z) L H R e.rules Z (multiple_closed (length L.degrees) Z) d e.generates e.reduced r hr (e.degree r hr) in
      let y = reduced_exactly (IsMultiple Z) L H R e.rules Z (multiple_closed (length L.degrees) Z) d e.generates e.reduced s hs (e.degree s hs) in
      let p : r.right ≡ s.right = one_least (image_of L s.left) r.right s.right (subst (λ w. IsLeastOrZero (IsMultiple Z) L (image_of L w) r.right) q x.1) y.1 in
      ap (λ w. record { left = w; right = r.right }) q ∙ ap (λ a. record { left = s.left; right = a }) p

  module _ (c d : ℕ) (dense new : List Rule) (S T : List RewriteRule) (rules : AreRules L Z c dense) (same : AreSameRules dense S) (x : IsExtension L Z c d S T)
      (sorted : AreSortedRules (word_order_of L) T (length S) (length T) new) where
    old_in : (r : RewriteRule) → Contains S r → Contains T r
    old_in r h =
        let i = rule_index S r h in
        let l = i.1 in
        let w = x.keeps.within in
        subst (Contains T) (same_rule (length S) S T x.keeps i.0 l ∙ i.2) (contains_at T i.0 no_rule (omega arith))

    new_in : (r : Rule) → Contains new r → Contains T (rewrite_rule r)
    new_in r h = let y = sorted.there r h in subst (Contains T) (sym y.3) (contains_at T y.0 no_rule y.2)

    pub extended_same : AreSameRules (dense ++ new) T
    extended_same = record {
      there = λ r h. ⊎_elim (λ a. old_in (rewrite_rule r) (same.there r a)) (λ b. new_in r b) (contains_either dense new r h);
      back = λ t h.
          let i = rule_index T t h in
          subst (λ xs. Contains xs t) (sym (map-append rewrite_rule dense new))
          (⊎_elim
          (λ (l : suc i.0 ≤ length S).
          contains_left (rewrite_rules dense) (rewrite_rules new) t
          (same.back t (subst (Contains S) (sym (same_rule (length S) S T x.keeps i.0 l) ∙ i.2) (contains_at S i.0 no_rule l))))
          (λ n.
          let y = sorted.back i.0 (omega (arith, n)) i.1 in
          let e : rewrite_rule y.0 ≡ t = exact_unique d T x.exact (rewrite_rule y.0) t (new_in y.0 y.1) h (y.2 ∙ ap (λ (r : RewriteRule). r.left) i.2) in
          contains_right (rewrite_rules dense) (rewrite_rules new) t (subst (Contains (rewrite_rules new)) e (contains_map rewrite_rule new y.0 y.1)))
          (le_or_not (suc i.0) (length S)));
    }

    pub extended_rules : AreRules L Z d (dense ++ new)
    extended_rules =
        exact_rules L H Z d T (dense ++ new) x.exact extended_same
        (subst (IsIncreasing (word_order_of L)) (sym (map-append (λ (r : Rule). r.word) dense new))
        (increasing_append (word_order_of L) (words_of dense) (words_of new) rules.increasing sorted.increasing
        (λ k m a b.
        let p = map_contains (λ (r : Rule). r.word) dense k a in
        let q = map_contains (λ (r : Rule). r.word) new m b in
        let y = sorted.there q.0 q.1 in
        let f = x.fresh y.0 y.1 y.2 in
        let e : (word_order_of L).degree p.0.word ≡ (word_order_of L).degree k = ap (word_order_of L).degree p.2 in
        let g : (word_order_of L).degree (rule_at T y.0).left ≡ (word_order_of L).degree m = ap (word_order_of L).degree (ap (λ (r : RewriteRule). r.left) (sym y.3) ∙ q.2) in
        let h = rules.degree p.0 p.1 in
        (word_laws L H).degree_first k m (omega arith))))

  -- the left sides of exact rules are words that are compared
  pub exact_compared : (d : ℕ) (R : List RewriteRule) → d ≤ 30000 → AreExactRules L Z d R → (k : ℕ) → k < length R → IsSmallWord (word_order_of L) (rule_at R k).left
  exact_compared d R l e k b = let h = contains_at R k no_rule b in let g = e.degree (rule_at R k) h in record { word = (e.rules (rule_at R k) h).0; small = omega arith }
