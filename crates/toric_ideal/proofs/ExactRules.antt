-- The rules of a listing are reduced, and generate the reducible words; and such rules are those of a listing.
use Rattle.std.proofs.Common.{◌≡◌, ℕ, ◌≤◌, sym, ◌∙◌, ap, subst, List, length, map, arith, ⊎_elim, Some, None}
use Rattle.std.specs.Prelude.{Contains}
use Rattle.monomial_order.specs.Monomial.{Exponents, Divides, IsMultiple}
use Rattle.monomial_order.specs.MonomialOrder.{IsIncreasing}
use Rattle.monomial_order.specs.laws.Comparing.{divisor_degree, three_ways}
use Rattle.word_laws.specs.Words.{Letters, AreLetters, word_order_of, image_of, IsWord, IsLeast, IsSmaller, IsReducible, IsMinimalReducible}
use Rattle.word_laws.specs.laws.Words.{word_laws}
use Rattle.monomial_order.specs.laws.Lists.{contains_map, map_contains}
use Rattle.word_laws.specs.laws.Reducible.{multiple_closed, multiple_decided, reducible_exactly}
use Rattle.word_rewriting.specs.Rewriting.{WordOrZero, RewriteRule, IsInNormalForm}
use Rattle.word_rewriting.specs.Completeness.{AreRewriteRules, IsRightSide, IsLeastOrZero}
use Rattle.word_rewriting.specs.laws.Complete.{reduced_exactly}
use Rattle.word_rewriting.specs.laws.NormalForms.{minimal_left, divided_reducible}
use Rattle.toric_ideal.specs.declared.rule.Rule.{Rule}
use Rattle.toric_ideal.specs.Listing.{AreRules}
use Rattle.toric_ideal.specs.Rewriting.{rewrite_rule, rewrite_rules, AreExactRules, AreSameRules}

module _ (L : Letters) (H : AreLetters L) (Z : List Exponents) where
  -- a word of a rule is reducible, so the least word of its image is smaller
  right_side : (w : Exponents) (a : WordOrZero) → IsWord L w → IsReducible (IsMultiple Z) L w → IsLeastOrZero (IsMultiple Z) L (image_of L w) a → IsRightSide (IsMultiple Z) L w a
  right_side w None hw red h = h
  right_side w (Some v) hw red h = record {
    word = h.1.word;
    image = h.1.image;
    less = ⊎_elim (λ l. l)
        (λ b. ⊎_elim (λ e. absurd (none v w (sym e) h.0 h.1 red)) (λ g. absurd (h.1.least w (record { word = hw; image = sym h.1.image; less = g }))) b)
        (three_ways (word_order_of L) (word_laws L H) v w);
  }
    where
      none : (v w : Exponents) → w ≡ v → ¬ IsMultiple Z (image_of L w) → IsLeast L (image_of L w) v → IsReducible (IsMultiple Z) L w → ⊥
      none v w e z h red = ⊎_elim z (λ s. h.least s.0 (subst (λ x. IsSmaller L x s.0) e s.1)) red

  pub rules_exact : (d : ℕ) (rules : List Rule) → AreRules L Z d rules → AreExactRules L Z d (rewrite_rules rules)
  rules_exact d rules h = record {
    rules = are;
    reduced = record {
      right = λ r c. let x = map_contains rewrite_rule rules r c in subst (λ t. IsInNormalForm (rewrite_rules rules) t.right) x.2 (normal (image_of L x.0.word) x.0.least (h.least x.0 x.1));
      left = λ r s c k e.
          let x = map_contains rewrite_rule rules r c in
          let y = map_contains rewrite_rule rules s k in
          let m = h.minimal x.0 x.1 in
          let n = h.minimal y.0 y.1 in
          let p : y.0.word ≡ s.left = ap (λ (t : RewriteRule). t.left) y.2 in
          let q : x.0.word ≡ r.left = ap (λ (t : RewriteRule). t.left) x.2 in
          sym p ∙ (m.minimal y.0.word n.word n.reducible (subst (λ u. Divides u x.0.word) (sym p) (subst (Divides s.left) (sym q) e)) ∙ q);
    };
    generates = λ w hw dw red.
        let u = (reducible_exactly L H (IsMultiple Z) (multiple_closed (length L.degrees) Z) (multiple_decided (length L.degrees) Z) w hw).0 red in
        let e = divisor_degree (word_order_of L) (word_laws L H) u.0 w u.1.word.trimmed hw.trimmed u.2 in
        let r = h.all u.0 u.1 (omega arith) in
        (rewrite_rule r.0, contains_map rewrite_rule rules r.0 r.1, subst (λ x. Divides x w) (sym r.2) u.2);
    degree = λ r c. let x = map_contains rewrite_rule rules r c in subst (λ (t : RewriteRule). (word_order_of L).degree t.left ≤ d) x.2 (h.degree x.0 x.1);
  }
    where
      are : AreRewriteRules (IsMultiple Z) L (rewrite_rules rules)
      are r c =
          let x = map_contains rewrite_rule rules r c in
          let m = h.minimal x.0 x.1 in
          subst (λ (t : RewriteRule). IsWord L t.left × IsRightSide (IsMultiple Z) L t.left t.right) x.2 (m.word, right_side x.0.word x.0.least m.word m.reducible (h.least x.0 x.1))

      normal : (m : Exponents) (a : WordOrZero) → IsLeastOrZero (IsMultiple Z) L m a → IsInNormalForm (rewrite_rules rules) a
      normal m None k = tt
      normal m (Some v) k = λ d. ⊎_elim (λ z. k.0 (subst (IsMultiple Z) k.1.image z)) (λ s. k.1.least s.0 s.1)
          (divided_reducible (IsMultiple Z) L H (rewrite_rules rules) are (multiple_closed (length L.degrees) Z) v k.1.word d)

  -- and the other way
  pub exact_rules : (d : ℕ) (R : List RewriteRule) (rules : List Rule) → AreExactRules L Z d R → AreSameRules rules R → IsIncreasing (word_order_of L) (map (λ r. r.word) rules) → AreRules L Z d rules
  exact_rules d R rules h same up = record {
    increasing = up;
    minimal = λ r c. (exact (rewrite_rule r) (same.there r c)).0;
    degree = λ r c. h.degree (rewrite_rule r) (same.there r c);
    least = λ r c. (exact (rewrite_rule r) (same.there r c)).1;
    all = λ w m l.
        let u = minimal_left (IsMultiple Z) L H R h.rules (multiple_closed (length L.degrees) Z) d h.generates w m.word l m in
        let x = map_contains rewrite_rule rules u.rule (same.back u.rule u.listed) in
        (x.0, x.1, ap (λ (t : RewriteRule). t.left) x.2 ∙ u.left);
  }
    where
      exact : (r : RewriteRule) → Contains R r → IsMinimalReducible (IsMultiple Z) L r.left × IsLeastOrZero (IsMultiple Z) L (image_of L r.left) r.right
      exact r c = reduced_exactly (IsMultiple Z) L H R h.rules Z (multiple_closed (length L.degrees) Z) d h.generates h.reduced r c (h.degree r c)

  -- rules with the same members as exact rules are exact
  pub exact_same : (d : ℕ) (R S : List RewriteRule) → ((r : RewriteRule) → Contains R r → Contains S r) → ((r : RewriteRule) → Contains S r → Contains R r) → AreExactRules L Z d R → AreExactRules L Z d S
  exact_same d R S there back h = record {
    rules = λ r c. h.rules r (back r c);
    reduced = record { right = λ r c. normal r.right (h.reduced.right r (back r c)); left = λ r s c k. h.reduced.left r s (back r c) (back s k) };
    generates = λ w hw dw red. let x = h.generates w hw dw red in (x.0, there x.0 x.1, x.2);
    degree = λ r c. h.degree r (back r c);
  }
    where
      normal : (a : WordOrZero) → IsInNormalForm R a → IsInNormalForm S a
      normal None n = tt
      normal (Some v) n = λ k. n (k.0, back k.0 k.1, k.2)

  pub listed_exact : (d : ℕ) (R : List RewriteRule) (rules : List Rule) → AreRules L Z d rules → AreSameRules rules R → AreExactRules L Z d R
  listed_exact d R rules h same =
      exact_same d (rewrite_rules rules) R
      (λ r c. let x = map_contains rewrite_rule rules r c in subst (Contains R) x.2 (same.there x.0 x.1)) same.back (rules_exact d rules h)
