-- What rules show: normal forms, least words and reducible words that no rule rewrites.
use Rattle.std.proofs.Common.{◌≡◌, ◌≢◌, ℕ, ◌≤◌, refl, sym, ◌∙◌, ap, subst, List, length, arith, inl, inr, ⊎_elim, Some, None, Contains}
use Rattle.monomial_order.specs.Monomial.{Exponents, product, least_common_multiple as lcm, IsTrimmed, Divides}
use Rattle.monomial_order.specs.laws.Monomial.{IsMonomial-product, IsMonomial-least_common_multiple as IsMonomial-lcm}
use Rattle.monomial_order.specs.laws.Cofactors.{Divides-antisymm}
use Rattle.monomial_order.specs.laws.Comparing.{divisor_degree, three_ways}
use Rattle.word_laws.specs.Words.{Letters, AreLetters, word_order_of, image_of, IsWord, IsReducible, IsMinimalReducible, IsZeroClosed}
use Rattle.word_laws.specs.laws.Words.{word_laws, image_x, image_times, degree_image}
use Rattle.word_laws.specs.laws.Reducible.{reducible_multiple}
use Rattle.word_rewriting.specs.Rewriting.{WordOrZero, RewriteRule, Rewrites, stays, steps, AreJoinable, HasLeftDivisor, IsInNormalForm, IsNormalForm, multiple, IsCriticalPair}
use Rattle.word_rewriting.specs.Completeness.{AreRewriteRules, IsRightSide, HasImage, IsLeastOrZero, GeneratesReducible, IsMissedWord, IsMinimalLeftSide}
use Rattle.word_rewriting.specs.laws.Rewriting.{same_or_not}
use Rattle.word_rewriting.specs.laws.Confluence.{IsWithinDegree, factor_monomial, normal}
use Rattle.word_rewriting.specs.laws.Criterion.{decreasing_rules}

module _ (IsZero : Exponents → Type 0) (L : Letters) (H : AreLetters L) where
  module _ (R : List RewriteRule) (rules : AreRewriteRules IsZero L R) where
    pub normal_form : (d : ℕ) (a : WordOrZero) → IsWithinDegree (word_order_of L) (word_laws L H) d a → (b : WordOrZero) × IsNormalForm R a b
    normal_form d a h = normal (word_order_of L) (word_laws L H) R (decreasing_rules IsZero L R rules) d a h

    image_within : (m : Exponents) (a : WordOrZero) → HasImage IsZero L m a → IsWithinDegree (word_order_of L) (word_laws L H) ((word_order_of L).degree m) a
    image_within m None h = tt
    image_within m (Some w) h = record { monomial = h.0; degree = let e = degree_image L H w in let q : (word_order_of L).degree (image_of L w) ≡ (word_order_of L).degree m = ap (word_order_of L).degree h.1 in omega arith }

    -- what has an image has a normal form
    pub image_normal_form : (m : Exponents) (a : WordOrZero) → HasImage IsZero L m a → (b : WordOrZero) × IsNormalForm R a b
    image_normal_form m a h = normal_form ((word_order_of L).degree m) a (image_within m a h)

    pub word_normal_form : (w : Exponents) → IsWord L w → (a : WordOrZero) × IsNormalForm R (Some w) a
    word_normal_form w hw = image_normal_form (image_of L w) (Some w) (hw, refl)

    module _ (closed : IsZeroClosed (length L.degrees) IsZero) where
      -- a multiple of the right side has the image of the multiple of the left word
      pub multiple_image : (k u w : Exponents) (a : WordOrZero) → IsWord L k → IsWord L u → product k u ≡ w → IsRightSide IsZero L u a → HasImage IsZero L (image_of L w) (multiple k a)
      multiple_image k u w None hk hu e h =
          subst IsZero (sym (image_times L H k u) ∙ ap (image_of L) e) (closed (image_of L k) (image_of L u) (image_x L H k) (image_x L H u) h)
      multiple_image k u w (Some v) hk hu e h = (
        IsMonomial-product (word_order_of L).places k v hk h.word,
        image_times L H k v ∙ (ap (product (image_of L k)) h.image ∙ (sym (image_times L H k u) ∙ ap (image_of L) e)),
      )

      -- rewriting keeps the image
      pub rewrites_image : {a b : WordOrZero} → Rewrites R a b → (m : Exponents) → HasImage IsZero L m a → HasImage IsZero L m b
      rewrites_image stays m h = h
      rewrites_image (steps {w = w} {a = a} s r) m h =
          rewrites_image r m
          (subst (HasImage IsZero L m) s.by.result
          (subst (λ x. HasImage IsZero L x (multiple s.by.cofactor s.rule.right)) h.1
          (multiple_image s.by.cofactor s.rule.left w s.rule.right
          (factor_monomial (word_order_of L).places s.by.cofactor s.rule.left w s.by.trimmed h.0 s.by.word) (rules s.rule s.listed).0 s.by.word (rules s.rule s.listed).1)))

      -- each side of a pair has the image of the least common multiple
      pub side_image : (k u w : Exponents) (a b : WordOrZero) → IsTrimmed k → IsWord L w → IsWord L u → product k u ≡ w → IsRightSide IsZero L u a → multiple k a ≡ b → HasImage IsZero L (image_of L w) b
      side_image k u w a b hk hw hu e h q =
          subst (HasImage IsZero L (image_of L w)) q (multiple_image k u w a (factor_monomial (word_order_of L).places k u w hk hw e) hu e h)

      pub pair_images : (r s : RewriteRule) → Contains R r → Contains R s → (a b : WordOrZero) → IsCriticalPair r s a b →
          HasImage IsZero L (image_of L (lcm r.left s.left)) a × HasImage IsZero L (image_of L (lcm r.left s.left)) b
      pair_images r s hr hs a b p =
          let l : IsWord L (lcm r.left s.left) = IsMonomial-lcm (word_order_of L).places r.left s.left (rules r hr).0 (rules s hs).0 in (
            side_image p.0.cofactor r.left (lcm r.left s.left) r.right a p.0.trimmed l (rules r hr).0 p.0.word (rules r hr).1 p.0.result,
            side_image p.1.cofactor s.left (lcm r.left s.left) s.right b p.1.trimmed l (rules s hs).0 p.1.word (rules s hs).1 p.1.result,
          )

      -- if a word has the image m, and no rule rewrites it, it is missed if it is reducible
      missed : (m w : Exponents) → HasImage IsZero L m (Some w) → IsInNormalForm R (Some w) → IsReducible IsZero L w → IsMissedWord IsZero L R ((word_order_of L).degree m) w
      missed m w h n r = record { word = h.0; degree = sym (degree_image L H w) ∙ ap (word_order_of L).degree h.1; reducible = r; missed = n }

      -- one image has one normal form, or one of two is missed
      normal_differ : (m : Exponents) (u v : WordOrZero) → HasImage IsZero L m u → HasImage IsZero L m v → IsInNormalForm R u → IsInNormalForm R v → u ≢ v →
          (w : Exponents) × IsMissedWord IsZero L R ((word_order_of L).degree m) w
      normal_differ m None None hu hv nu nv ne = absurd (ne refl)
      normal_differ m None (Some v) hu hv nu nv ne = (v, missed m v hv nv (inl (subst IsZero (sym hv.1) hu)))
      normal_differ m (Some u) None hu hv nu nv ne = (u, missed m u hu nu (inl (subst IsZero (sym hu.1) hv)))
      normal_differ m (Some u) (Some v) hu hv nu nv ne =
          ⊎_elim
          (λ l. (v, missed m v hv nv (inr (u, record { word = hu.0; image = hu.1 ∙ sym hv.1; less = l }))))
          (λ b. ⊎_elim (λ e. absurd (ne (ap Some e)))
          (λ l. (u, missed m u hu nu (inr (v, record { word = hv.0; image = hv.1 ∙ sym hu.1; less = l })))) b)
          (three_ways (word_order_of L) (word_laws L H) u v)

      -- two normal forms of one image that differ show a missed word
      pub difference_shows : (m : Exponents) (a b u v : WordOrZero) → HasImage IsZero L m a → HasImage IsZero L m b → IsNormalForm R a u → IsNormalForm R b v → u ≢ v →
          (w : Exponents) × IsMissedWord IsZero L R ((word_order_of L).degree m) w
      difference_shows m a b u v ha hb hu hv ne =
          normal_differ m u v (rewrites_image hu.rewrites m ha) (rewrites_image hv.rewrites m hb) hu.normal hv.normal ne

      -- so does a pair of one image that is not joinable
      pub unjoinable_shows : (m : Exponents) (a b : WordOrZero) → HasImage IsZero L m a → HasImage IsZero L m b → ¬ AreJoinable R a b →
          (w : Exponents) × IsMissedWord IsZero L R ((word_order_of L).degree m) w
      unjoinable_shows m a b ha hb apart =
          let u = image_normal_form m a ha in
          let v = image_normal_form m b hb in
          difference_shows m a b u.0 v.0 ha hb u.1 v.1 (λ e. apart (u.0, u.1.rewrites, subst (Rewrites R b) (sym e) v.1.rewrites))

      pub pair_shows : (r s : RewriteRule) → Contains R r → Contains R s → (a b : WordOrZero) → IsCriticalPair r s a b → ¬ AreJoinable R a b →
          (w : Exponents) × IsMissedWord IsZero L R ((word_order_of L).degree (lcm r.left s.left)) w
      pair_shows r s hr hs a b p apart =
          let i = pair_images r s hr hs a b p in
          let u = unjoinable_shows (image_of L (lcm r.left s.left)) a b i.0 i.1 apart in
          (u.0, subst (λ d. IsMissedWord IsZero L R d u.0) (degree_image L H (lcm r.left s.left)) u.1)

      -- if no word of its degree is missed, what has one image is joinable
      pub generated_joinable : (c : ℕ) → GeneratesReducible IsZero L R c →
          (m : Exponents) (a b : WordOrZero) → (word_order_of L).degree m ≤ c → HasImage IsZero L m a → HasImage IsZero L m b → AreJoinable R a b
      generated_joinable c generates m a b d ha hb =
          let u = image_normal_form m a ha in
          let v = image_normal_form m b hb in
          ⊎_elim (λ e. (u.0, u.1.rewrites, subst (Rewrites R b) (sym e) v.1.rewrites))
          (λ ne. let r = difference_shows m a b u.0 v.0 ha hb u.1 v.1 ne in let e = r.1.degree in absurd (r.1.missed (generates r.0 r.1.word (omega arith) r.1.reducible)))
          (same_or_not u.0 v.0)

      -- a left side is reducible
      pub left_reducible : (r : RewriteRule) → Contains R r → IsReducible IsZero L r.left
      left_reducible r hr = by_case r.right (rules r hr).1
        where
          by_case : (a : WordOrZero) → IsRightSide IsZero L r.left a → IsReducible IsZero L r.left
          by_case None h = inl h
          by_case (Some v) h = inr (v, h)

      pub divided_reducible : (w : Exponents) → IsWord L w → HasLeftDivisor R w → IsReducible IsZero L w
      divided_reducible w hw d = reducible_multiple L H IsZero closed d.0.left w (rules d.0 d.1).0 hw d.2 (left_reducible d.0 d.1)

      module _ (c : ℕ) (generates : GeneratesReducible IsZero L R c) where
        -- a normal form is the least word with the image, or zero
        pub form_least : (w : Exponents) → IsWord L w → (word_order_of L).degree w ≤ c → (a : WordOrZero) → IsNormalForm R (Some w) a → IsLeastOrZero IsZero L (image_of L w) a
        form_least w hw hd a n = by_case a (rewrites_image n.rewrites (image_of L w) (hw, refl)) n.normal
          where
            by_case : (a : WordOrZero) → HasImage IsZero L (image_of L w) a → IsInNormalForm R a → IsLeastOrZero IsZero L (image_of L w) a
            by_case None h d = h
            by_case (Some v) h d =
                ((λ z. no (inl (subst IsZero (sym h.1) z))), record { word = h.0; image = h.1; least = λ u s. no (inr (u, s)) })
              where
                no : IsReducible IsZero L v → ⊥
                no r = d (generates v h.0 (let a = degree_image L H v in let b = degree_image L H w in let e : (word_order_of L).degree (image_of L v) ≡ (word_order_of L).degree (image_of L w) = ap (word_order_of L).degree h.1 in omega arith) r)

        pub minimal_left : (u : Exponents) → IsWord L u → (word_order_of L).degree u ≤ c → IsMinimalReducible IsZero L u → IsMinimalLeftSide R u
        minimal_left u hu hd m =
            let d = generates u hu hd m.reducible in
            record {
              rule = d.0;
              listed = d.1;
              left = m.minimal d.0.left (rules d.0 d.1).0 (left_reducible d.0 d.1) d.2;
              minimal = λ s hs k. m.minimal s.left (rules s hs).0 (left_reducible s hs) k;
            }

        pub left_minimal : (u : Exponents) → IsWord L u → (word_order_of L).degree u ≤ c → IsMinimalLeftSide R u → IsMinimalReducible IsZero L u
        left_minimal u hu hd m = record {
          word = hu;
          reducible = subst (IsReducible IsZero L) m.left (left_reducible m.rule m.listed);
          minimal = λ v hv rv d.
              let e = divisor_degree (word_order_of L) (word_laws L H) v u hv.trimmed hu.trimmed d in
              let s = generates v hv (omega arith) rv in
              let q = m.minimal s.0 s.1 (λ i. let x = s.2 i in let y = d i in omega arith) in
              Divides-antisymm v u hv.trimmed hu.trimmed d (subst (λ x. Divides x v) q s.2);
        }
