-- Right sides that are rewritten, one after the other.
use Rattle.std.proofs.Common.{◌≡◌, ℕ, zero, suc, ◌+◌, ◌<◌, ◌≤◌, refl, sym, ◌∙◌, ap, subst, List, [], ◌∷◌, length, take, set, get_or, arith, ⊎_elim, Some, None, ◌⊎◌}
use Rattle.std.specs.Prelude.{Contains}
use Rattle.std.proofs.lemmas.List.{get_or-set_same, get_or-set_other, get_or_default, length-set}
use Rattle.std.specs.declared.cmp.Ordering.TheVariants.{Less}
use Rattle.monomial_order.specs.Monomial.{Exponents, Divides, IsMultiple}
use Rattle.monomial_order.specs.laws.Comparing.{degree_falls, numbers_or_not}
use Rattle.monomial_order.specs.laws.Lists.{contains_at}
use Rattle.word_laws.specs.Words.{Letters, AreLetters, word_order_of, image_of, IsWord, IsSmaller}
use Rattle.word_laws.specs.laws.Words.{word_laws}
use Rattle.word_laws.specs.laws.Reducible.{multiple_closed}
use Rattle.word_rewriting.specs.Rewriting.{WordOrZero, RewriteRule, IsInNormalForm, IsNormalForm, Rewrites}
use Rattle.word_rewriting.specs.Completeness.{AreRewriteRules, IsRightSide, HasImage}
use Rattle.word_rewriting.specs.laws.Confluence.{IsBelow, rewrites_below}
use Rattle.word_rewriting.specs.laws.Criterion.{decreasing_rules}
use Rattle.word_rewriting.specs.laws.Rewriting.{none_stays}
use Rattle.word_rewriting.specs.laws.NormalForms.{rewrites_image}
use Rattle.word_rules.specs.Rules.{no_rule, rule_at, AreDecreasing, IsSmallWord}
use Rattle.toric_ideal.specs.Step.{AreSmallRules, IsCleaned, IsRewrittenAt, KeepsFirst, KeepsLefts}

-- a rule of the list is that at an index
pub rule_index : (S : List RewriteRule) (r : RewriteRule) → Contains S r → (i : ℕ) × (i < length S) × (rule_at S i ≡ r)
rule_index S r h = let l = h.1 in (h.0, l, get_or_default S h.0 no_rule r l ∙ h.2)

-- rules with the same left sides have the same words in normal form
pub same_lefts : (S T : List RewriteRule) → length T ≡ length S → KeepsLefts S T → (a : WordOrZero) → IsInNormalForm S a → IsInNormalForm T a
same_lefts S T n e None h = tt
same_lefts S T n e (Some w) h =
    λ d. let i = rule_index T d.0 d.1 in
    let l = i.1 in
    h (rule_at S i.0, contains_at S i.0 no_rule (omega arith), subst (λ x. Divides x w) (e i.0) (subst (λ (r : RewriteRule). Divides r.left w) (sym i.2) d.2))

module _ (L : Letters) (H : AreLetters L) (Z : List Exponents) (S : List RewriteRule) (s : AreSmallRules L Z S) where
  pub small_decreasing : AreDecreasing (word_order_of L) S
  small_decreasing = decreasing_rules (IsMultiple Z) L S s.rules

  pub right_small : (i : ℕ) (w : Exponents) → i < length S → (rule_at S i).right ≡ Some w → IsSmallWord (word_order_of L) w
  right_small i w l e =
      let r = s.rules (rule_at S i) (contains_at S i no_rule l) in
      let k : IsSmaller L (rule_at S i).left w = subst (IsRightSide (IsMultiple Z) L (rule_at S i).left) e r.1 in
      let d = s.small (rule_at S i) (contains_at S i no_rule l) in
      let f = degree_falls (word_order_of L) (word_laws L H) w (rule_at S i).left k.less in
      record { word = k.word; small = omega arith }

  -- what the right side of a word rewrites to is a right side
  right_rewritten : (u w : Exponents) (a : WordOrZero) → IsWord L u → IsSmaller L u w → Rewrites S (Some w) a → IsRightSide (IsMultiple Z) L u a
  right_rewritten u w a hu k r =
      by_case a (rewrites_image (IsMultiple Z) L H S s.rules (multiple_closed (length L.degrees) Z) r (image_of L u) (k.word, k.image))
      (rewrites_below (word_order_of L) (word_laws L H) S small_decreasing ((word_order_of L).degree w) r w refl (record { monomial = k.word; degree = omega arith }))
    where
      by_case : (a : WordOrZero) → HasImage (IsMultiple Z) L (image_of L u) a → (a ≡ Some w) ⊎ IsBelow (word_order_of L) w a → IsRightSide (IsMultiple Z) L u a
      by_case None h b = h
      by_case (Some v) h b = record {
        word = h.0;
        image = h.1;
        less = ⊎_elim (λ e. let q : v ≡ w = cc in subst (λ x. (word_order_of L).compare x u ≡ Less) (sym q) k.less)
            (λ x. (word_laws L H).total.trans v w u x.1 k.less) b;
      }

  pub rewritten_rule : (i : ℕ) (a : WordOrZero) → i < length S → IsNormalForm S (rule_at S i).right a → IsRightSide (IsMultiple Z) L (rule_at S i).left a
  rewritten_rule i a l n = by_right (rule_at S i).right refl n.rewrites
    where
      r : IsWord L (rule_at S i).left × IsRightSide (IsMultiple Z) L (rule_at S i).left (rule_at S i).right
      r = s.rules (rule_at S i) (contains_at S i no_rule l)

      by_right : (b : WordOrZero) → (rule_at S i).right ≡ b → Rewrites S b a → IsRightSide (IsMultiple Z) L (rule_at S i).left a
      by_right None e k = subst (IsRightSide (IsMultiple Z) L (rule_at S i).left) (sym (none_stays S k refl)) (subst (IsRightSide (IsMultiple Z) L (rule_at S i).left) e r.1)
      by_right (Some w) e k = right_rewritten (rule_at S i).left w a r.0 (subst (IsRightSide (IsMultiple Z) L (rule_at S i).left) e r.1) k

  module _ (i : ℕ) (a : WordOrZero) (l : i < length S) (n : IsNormalForm S (rule_at S i).right a) where
    abbrev t : RewriteRule
    t = record { left = (rule_at S i).left; right = a }

    abbrev T : List RewriteRule
    T = set S i t

    number : length T ≡ length S
    number = length-set S i t

    here : rule_at T i ≡ t
    here = get_or-set_same S i t no_rule l

    lefts : KeepsLefts S T
    lefts k = ⊎_elim (λ e. ap (λ j. (rule_at T j).left) e ∙ (ap (λ (y : RewriteRule). y.left) here ∙ ap (λ j. (rule_at S j).left) (sym e))) (λ ne. ap (λ (y : RewriteRule). y.left) (get_or-set_other S i k t no_rule ne)) (numbers_or_not k i)

    pub rewritten_at : IsRewrittenAt L Z S (set S i (record { left = (rule_at S i).left; right = a })) i
    rewritten_at = record {
      number = number;
      lefts = lefts;
      others = λ k ne. get_or-set_other S i k t no_rule ne;
      rules = λ r h.
          let x = rule_index T r h in
          let b = x.1 in
          let m = number in
          subst (λ (y : RewriteRule). IsWord L y.left × IsRightSide (IsMultiple Z) L y.left y.right) x.2
          (⊎_elim (λ e. subst (λ (y : RewriteRule). IsWord L y.left × IsRightSide (IsMultiple Z) L y.left y.right) (sym (ap (rule_at T) e ∙ here))
          ((s.rules (rule_at S i) (contains_at S i no_rule l)).0, rewritten_rule i a l n))
          (λ ne. subst (λ (y : RewriteRule). IsWord L y.left × IsRightSide (IsMultiple Z) L y.left y.right) (sym (get_or-set_other S i x.0 t no_rule ne)) (s.rules (rule_at S x.0) (contains_at S x.0 no_rule (omega arith))))
          (numbers_or_not x.0 i));
      normal = subst (λ (y : RewriteRule). IsInNormalForm T y.right) (sym here) (same_lefts S T number lefts a n.normal);
    }

pub cleaned_start : (L : Letters) (Z : List Exponents) (S : List RewriteRule) (first : ℕ) → AreRewriteRules (IsMultiple Z) L S → ((k : ℕ) → k < first → IsInNormalForm S (rule_at S k).right) → IsCleaned L Z S S first
cleaned_start L Z S first rules h = record { number = refl; lefts = λ k. refl; rules = rules; normal = h }

pub cleaned_next : (L : Letters) (Z : List Exponents) (R S T : List RewriteRule) (i : ℕ) → IsCleaned L Z R S i → IsRewrittenAt L Z S T i → IsCleaned L Z R T (i + 1)
cleaned_next L Z R S T i k x = record {
  number = x.number ∙ k.number;
  lefts = λ j. x.lefts j ∙ k.lefts j;
  rules = x.rules;
  normal = λ j l. ⊎_elim
      (λ e. same_lefts T R (sym k.number ∙ sym x.number) (λ m. sym (k.lefts m) ∙ sym (x.lefts m)) (rule_at T j).right (subst (λ m. IsInNormalForm T (rule_at T m).right) (sym e) x.normal))
      (λ ne. subst (λ (y : RewriteRule). IsInNormalForm R y.right) (sym (x.others j ne)) (k.normal j (omega (arith, ne))))
      (numbers_or_not j i);
}

-- a change behind the first rules keeps these
pub rewritten_keeps : (L : Letters) (Z : List Exponents) (S T : List RewriteRule) (first i : ℕ) → first ≤ i → first ≤ length S → IsRewrittenAt L Z S T i → KeepsFirst first S T
rewritten_keeps L Z S T first i l w x = record {
  within = let n = x.number in omega arith;
  same = same_prefix no_rule first S T (let n = x.number in omega arith) w (λ k b. x.others k (λ e. absurd (omega arith)));
}
  where
    same_prefix : {A : Type 0} (d : A) (n : ℕ) (xs ys : List A) → n ≤ length ys → n ≤ length xs → ((k : ℕ) → k < n → get_or ys k d ≡ get_or xs k d) → take n ys ≡ take n xs
    same_prefix d zero xs ys a b h = refl
    same_prefix d (suc n) [] ys a b h = absurd (omega arith)
    same_prefix d (suc n) (x ∷ xs) [] a b h = absurd (omega arith)
    same_prefix d (suc n) (x ∷ xs) (y ∷ ys) a b h = ap (λ z. z ∷ take n ys) (h 0 (omega arith)) ∙ ap (λ zs. x ∷ zs) (same_prefix d n xs ys (omega arith) (omega arith) (λ k l. h (suc k) (omega arith)))

pub small_cleaned : (L : Letters) (Z : List Exponents) (S T : List RewriteRule) (i : ℕ) → AreSmallRules L Z S → IsCleaned L Z S T i → AreSmallRules L Z T
small_cleaned L Z S T i s k = record {
  rules = k.rules;
  small = λ r h.
      let x = rule_index T r h in
      let l = x.1 in let n = k.number in
      subst (λ (y : RewriteRule). (word_order_of L).degree y.left ≤ 30000) x.2 (subst (λ u. (word_order_of L).degree u ≤ 30000) (sym (k.lefts x.0)) (s.small (rule_at S x.0) (contains_at S x.0 no_rule (omega arith))));
}
