-- A degree of a completion, as its calls change it.
use Rattle.std.proofs.Common.{◌≡◌, ◌≢◌, ℕ, suc, ◌+◌, ◌≤◌, sym, ◌∙◌, ap, subst, List, [], ◌∷◌, ◌++◌, length, length-append, take, arith, Some, None}
use Rattle.std.specs.Prelude.{Contains, IfSome}
use Rattle.std.proofs.lemmas.List.{take-append-le}
use Rattle.monomial_order.specs.Monomial.{Exponents, IsMultiple, least_common_multiple as lcm, weighted_degree}
use Rattle.monomial_order.specs.laws.Monomial.{IsMonomial-least_common_multiple}
use Rattle.monomial_order.specs.laws.Comparing.{degree_one}
use Rattle.monomial_order.specs.laws.Lists.{contains_at}
use Rattle.word_laws.specs.Words.{Letters, AreLetters, word_order_of, image_of}
use Rattle.word_laws.specs.laws.Words.{word_laws, degree_image, degree_x, x_word, image_same}
use Rattle.word_laws.specs.laws.Reducible.{multiple_closed}
use Rattle.word_rewriting.specs.Rewriting.{WordOrZero, RewriteRule, Rewrites, HasJoinablePair, IsNormalForm}
use Rattle.word_rewriting.specs.Completeness.{AreInX, HasImage}
use Rattle.word_rewriting.specs.laws.Criterion.{decreasing_rules}
use Rattle.word_rewriting.specs.laws.NormalForms.{pair_images, rewrites_image}
use Rattle.word_rules.specs.Rules.{no_rule, rule_at, AreDecreasing, ArePairForms, IsSmallWord}
use Rattle.toric_ideal.specs.Rewriting.{AreExactRules}
use Rattle.toric_ideal.specs.Step.{IsGrowing, IsOriented, IsPairAt, IsStep}
use Rattle.toric_ideal.proofs.DegreeStep.{other_forms, oriented_rule, same_forms, zero_pushed}

module _ (L : Letters) (H : AreLetters L) (Z : List Exponents) (in_x : AreInX L Z) (c first : ℕ) (S : List RewriteRule) (g : IsGrowing L Z c first S) where
  pub growing_decreasing : AreDecreasing (word_order_of L) S
  growing_decreasing = decreasing_rules (IsMultiple Z) L S g.step.rules

  -- the rules with one more, which is a step
  pub growing_pushed : (t : RewriteRule) → IsStep L Z (c + 1) (take first S) (S ++ t ∷ []) → IsGrowing L Z c first (S ++ t ∷ [])
  growing_pushed t k =
      let e = take-append-le first S (t ∷ []) g.within in
      let n = length-append S (t ∷ []) in
      let w = g.within in
      record {
        within = omega arith;
        exact = subst (AreExactRules L Z c) (sym e) g.exact;
        step = subst (λ xs. IsStep L Z (c + 1) xs (S ++ t ∷ [])) (sym e) k;
      }

  -- a word of the degree is another one than 1
  pub word_not_one : (w : Exponents) → (word_order_of L).degree w ≡ c + 1 → w ≢ []
  word_not_one w d e = let z = degree_one (word_order_of L) (word_laws L H) in let q : (word_order_of L).degree w ≡ (word_order_of L).degree [] = ap (word_order_of L).degree e in absurd (omega arith)

  pub image_small : (m : Exponents) (a : WordOrZero) → c + 1 ≤ 65535 → (word_order_of L).degree m ≡ c + 1 → HasImage (IsMultiple Z) L m a → IfSome a (IsSmallWord (word_order_of L))
  image_small m None l d h = tt
  image_small m (Some w) l d h = record { word = h.0; small = let e = degree_image L H w in let q : (word_order_of L).degree (image_of L w) ≡ (word_order_of L).degree m = ap (word_order_of L).degree h.1 in omega arith }

  module _ (small : c + 1 ≤ 30000) (i j : ℕ) (p : IsPairAt (word_order_of L) (c + 1) first S i j) where
    first_in : Contains S (rule_at S i)
    first_in = let a = p.rising in let b = p.below in let w = g.within in contains_at S i no_rule (omega arith)

    second_in : Contains S (rule_at S j)
    second_in = let b = p.below in let w = g.within in contains_at S j no_rule (omega arith)

    pub pair_small : IsSmallWord (word_order_of L) (lcm (rule_at S i).left (rule_at S j).left)
    pair_small = record {
      word = IsMonomial-least_common_multiple (word_order_of L).places (rule_at S i).left (rule_at S j).left (g.step.rules (rule_at S i) first_in).0 (g.step.rules (rule_at S j) second_in).0;
      small = let d = p.degree in omega arith;
    }

    module _ (u v : WordOrZero) (f : ArePairForms S (rule_at S i) (rule_at S j) u v) where
      abbrev m : Exponents
      m = image_of L (lcm (rule_at S i).left (rule_at S j).left)

      m_degree : (word_order_of L).degree m ≡ c + 1
      m_degree = degree_image L H (lcm (rule_at S i).left (rule_at S j).left) ∙ p.degree

      images : HasImage (IsMultiple Z) L m f.first × HasImage (IsMultiple Z) L m f.second
      images = pair_images (IsMultiple Z) L H S g.step.rules (multiple_closed (length L.degrees) Z) (rule_at S i) (rule_at S j) first_in second_in f.first f.second f.pair

      image_u : HasImage (IsMultiple Z) L m u
      image_u = rewrites_image (IsMultiple Z) L H S g.step.rules (multiple_closed (length L.degrees) Z) f.first_form.rewrites m images.0

      image_v : HasImage (IsMultiple Z) L m v
      image_v = rewrites_image (IsMultiple Z) L H S g.step.rules (multiple_closed (length L.degrees) Z) f.second_form.rewrites m images.1

      pub first_small : IfSome u (IsSmallWord (word_order_of L))
      first_small = image_small m u (omega arith) m_degree image_u

      pub second_small : IfSome v (IsSmallWord (word_order_of L))
      second_small = image_small m v (omega arith) m_degree image_v

      pub pair_same : u ≡ v → HasJoinablePair S (rule_at S i) (rule_at S j)
      pair_same e = same_forms L H Z in_x c (c + 1) (let e : c + 1 ≡ suc c = omega arith in e) (take first S) g.exact S (rule_at S i) (rule_at S j) f.first f.second u v f.pair f.first_form f.second_form e

      module _ (t : RewriteRule) (o : IsOriented (word_order_of L) u v t) where
        pub pair_left : t.left ≢ []
        pair_left =
            let x = oriented_rule L H Z in_x m u v t image_u image_v o in
            word_not_one t.left (sym (degree_image L H t.left) ∙ (ap (word_order_of L).degree x.2 ∙ m_degree))

        pushed : IsStep L Z (c + 1) (take first S) (S ++ t ∷ []) × HasJoinablePair (S ++ t ∷ []) (rule_at S i) (rule_at S j)
        pushed = other_forms L H Z in_x c (c + 1) (let e : c + 1 ≡ suc c = omega arith in e) (take first S) g.exact S g.step (rule_at S i) (rule_at S j) first_in second_in p.degree f.first f.second u v f.pair f.first_form f.second_form t o

        pub pair_pushed : IsGrowing L Z c first (S ++ t ∷ [])
        pair_pushed = growing_pushed t pushed.0

        pub pair_joined : HasJoinablePair (S ++ t ∷ []) (rule_at S i) (rule_at S j)
        pair_joined = pushed.1

  -- a zero of the degree
  module _ (small : c + 1 ≤ 30000) (z : Exponents) (hz : Contains Z z) (dz : weighted_degree L.degrees z ≡ c + 1) where
    pub zero_small : IsSmallWord (word_order_of L) z
    zero_small = record { word = x_word L H z (in_x z hz); small = let d = degree_x L H z (in_x z hz) in omega arith }

    module _ (u : Exponents) (n : IsNormalForm S (Some z) (Some u)) where
      pub zero_left : u ≢ []
      zero_left =
          let i = rewrites_image (IsMultiple Z) L H S g.step.rules (multiple_closed (length L.degrees) Z) n.rewrites z (x_word L H z (in_x z hz), image_same L H z (in_x z hz)) in
          word_not_one u (sym (degree_image L H u) ∙ (ap (word_order_of L).degree i.1 ∙ (degree_x L H z (in_x z hz) ∙ dz)))

      zero_step : IsStep L Z (c + 1) (take first S) (S ++ record { left = u; right = None } ∷ []) × Rewrites (S ++ record { left = u; right = None } ∷ []) (Some z) None
      zero_step = zero_pushed L H Z in_x c (c + 1) (let e : c + 1 ≡ suc c = omega arith in e) (take first S) g.exact S g.step z u hz dz n

      pub zero_grows : IsGrowing L Z c first (S ++ record { left = u; right = None } ∷ [])
      zero_grows = growing_pushed (record { left = u; right = None }) zero_step.0

      pub zero_vanishes : Rewrites (S ++ record { left = u; right = None } ∷ []) (Some z) None
      zero_vanishes = zero_step.1
