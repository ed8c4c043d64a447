-- Pairs whose members have a common letter are joinable by the rules of smaller degrees.
use Rattle.std.proofs.Common.{◌≡◌, ◌≢◌, ℕ, ◌+◌, ◌≤◌, ◌<◌, refl, sym, ◌∙◌, ap, subst, List, length, take, arith, Some}
use Rattle.monomial_order.specs.Monomial.{Exponents, exponent, product, variable, Divides, IsMultiple, least_common_multiple as lcm}
use Rattle.monomial_order.specs.laws.Monomial.{exponent-product, variable_at, variable_divides, variable_trimmed}
use Rattle.monomial_order.specs.laws.Cofactors.{cofactor, product_cancel, Divides-product_right}
use Rattle.monomial_order.specs.laws.Comparing.{proper_divisor}
use Rattle.monomial_order.specs.laws.Lists.{contains_at}
use Rattle.word_laws.specs.Words.{Letters, AreLetters, word_order_of, image_of, IsWord}
use Rattle.word_laws.specs.laws.Words.{word_laws, degree_image, image_times, image_x}
use Rattle.word_laws.specs.laws.Reducible.{multiple_closed}
use Rattle.word_rewriting.specs.Rewriting.{WordOrZero, RewriteRule, AreJoinable, HasJoinablePair, IsCriticalPair}
use Rattle.word_rewriting.specs.Completeness.{HasImage}
use Rattle.word_rewriting.specs.laws.Rewriting.{more_joinable, multiple_joinable}
use Rattle.word_rewriting.specs.laws.NormalForms.{generated_joinable, pair_images}
use Rattle.word_rules.specs.Rules.{no_rule, rule_at, HaveCommonLetter}
use Rattle.toric_ideal.specs.Rewriting.{AreExactRules}
use Rattle.toric_ideal.specs.Step.{IsGrowing, IsPairAt}
use Rattle.toric_ideal.proofs.Members.{contains_take}

module _ (L : Letters) (H : AreLetters L) where
  -- k is the word u, divided by a letter
  record IsDividedByLetter (letter : ℕ) (u k : Exponents) : Type 0 where
    word : IsWord L k
    product : product (variable letter) k ≡ u
    below : (word_order_of L).degree k < (word_order_of L).degree u

  divided : (letter : ℕ) (u : Exponents) → IsWord L u → exponent u letter ≢ 0 → (k : Exponents) × IsDividedByLetter letter u k
  divided letter u hu e =
      let x = cofactor (variable letter) u (variable_trimmed letter) hu.trimmed (variable_divides letter u (omega arith)) in
      let less : x.0 ≢ u = λ q.
      let p = exponent-product (variable letter) x.0 letter in
      let one = variable_at letter in
      let whole : exponent (product (variable letter) x.0) letter ≡ exponent u letter = ap (λ w. exponent w letter) x.2 in
      let same : exponent x.0 letter ≡ exponent u letter = ap (λ w. exponent w letter) q in
      absurd (omega arith) in
      let b = proper_divisor (word_order_of L) (word_laws L H) x.0 u hu x.1 (subst (Divides x.0) x.2 (Divides-product_right (variable letter) x.0)) less in
      (x.0, record { word = b.0; product = x.2; below = b.1 })

  module _ (Z : List Exponents) (c : ℕ) where
    -- words of degree c + 1 with one image and a common letter are multiples of words of degree c at most with one image
    pub common_joinable : (R : List RewriteRule) → AreExactRules L Z c R → (u v : Exponents) (letter : ℕ) → IsWord L u → IsWord L v → image_of L u ≡ image_of L v →
        (word_order_of L).degree u ≤ c + 1 → exponent u letter ≢ 0 → exponent v letter ≢ 0 → AreJoinable R (Some u) (Some v)
    common_joinable R exact u v letter hu hv e d in_u in_v =
        let t = variable letter in
        let x = divided letter u hu in_u in
        let y = divided letter v hv in_v in
        let one : image_of L x.0 ≡ image_of L y.0 =
        product_cancel (image_of L t) (image_of L x.0) (image_of L y.0) (image_x L H x.0).trimmed (image_x L H y.0).trimmed
        (sym (image_times L H t x.0) ∙ (ap (image_of L) x.1.product ∙ (e ∙ (sym (ap (image_of L) y.1.product) ∙ image_times L H t y.0)))) in
        let small : (word_order_of L).degree (image_of L x.0) ≤ c = let s = degree_image L H x.0 in let b = x.1.below in omega arith in
        let lower = generated_joinable (IsMultiple Z) L H R exact.rules (multiple_closed (length L.degrees) Z) c exact.generates (image_of L x.0) (Some x.0) (Some y.0) small
        (x.1.word, refl) (y.1.word, sym one) in
        subst (λ w. AreJoinable R (Some u) (Some w)) y.1.product
        (subst (λ w. AreJoinable R (Some w) (Some (product t y.0))) x.1.product (multiple_joinable R t (Some x.0) (Some y.0) (variable_trimmed letter) lower))

    module _ (first : ℕ) (S : List RewriteRule) (g : IsGrowing L Z c first S) (i j : ℕ) (p : IsPairAt (word_order_of L) (c + 1) first S i j) where
      pub common_joined : ((a b : WordOrZero) → IsCriticalPair (rule_at S i) (rule_at S j) a b → HaveCommonLetter a b) → HasJoinablePair S (rule_at S i) (rule_at S j)
      common_joined common a b pair =
          let x = common a b pair in
          let m = image_of L (lcm (rule_at S i).left (rule_at S j).left) in
          let rising = p.rising in
          let below = p.below in
          let within = g.within in
          let images = pair_images (IsMultiple Z) L H S g.step.rules (multiple_closed (length L.degrees) Z) (rule_at S i) (rule_at S j)
          (contains_at S i no_rule (omega arith)) (contains_at S j no_rule (omega arith)) a b pair in
          let u = subst (HasImage (IsMultiple Z) L m) x.is_first images.0 in
          let v = subst (HasImage (IsMultiple Z) L m) x.is_second images.1 in
          let degree = p.degree in
          let of_m = degree_image L H (lcm (rule_at S i).left (rule_at S j).left) in
          let of_u = degree_image L H x.first in
          let same : (word_order_of L).degree (image_of L x.first) ≡ (word_order_of L).degree m = ap (word_order_of L).degree u.1 in
          let joined = common_joinable (take first S) g.exact x.first x.second x.letter u.0 v.0 (u.1 ∙ sym v.1) (omega arith) x.in_first x.in_second in
          more_joinable (take first S) S (λ r h. contains_take S first r h) a b
          (subst (λ w. AreJoinable (take first S) a w) (sym x.is_second) (subst (λ w. AreJoinable (take first S) w (Some x.second)) (sym x.is_first) joined))
