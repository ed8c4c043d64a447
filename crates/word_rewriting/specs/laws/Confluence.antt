-- If the critical pairs are joinable, normal forms are unique.
use Rattle.std.proofs.Common.{◌≡◌, ℕ, ◌≤◌, refl, sym, ◌∙◌, ap, subst, List, length, arith, ◌⊎◌, inl, inr, ⊎_elim, Some, None, Contains}
use Rattle.std.specs.declared.cmp.Ordering.TheVariants.{Less}
use Rattle.monomial_order.specs.Monomial.{Exponents, product, least_common_multiple as lcm, IsTrimmed, IsMonomial, Divides}
use Rattle.monomial_order.specs.MonomialOrder.{MonomialOrder, IsMonomialOrder}
use Rattle.monomial_order.specs.laws.Monomial.{product_comm, length-product, product_assoc, IsMonomial-product, IsTrimmed-product, IsTrimmed-least_common_multiple}
use Rattle.monomial_order.specs.laws.Cofactors.{cofactor, least_common_multiple_least, Divides-least_common_multiple, Divides-least_common_multiple_right, product_cancel_right}
use Rattle.monomial_order.specs.laws.Comparing.{degree_falls, divisor_degree}
use Rattle.monomial_order.specs.laws.Rank.{IsWithin, below_induction}
use Rattle.word_rewriting.specs.Rewriting.{WordOrZero, RewriteRule, RewritesOnce, Rewrites, stays, steps, AreJoinable, HasLeftDivisor, IsInNormalForm, IsNormalForm, multiple, JoinsPair, JoinsPairs}
use Rattle.word_rewriting.specs.laws.Rewriting.{rewrites_trans, joinable_sym, first_step, none_stays, multiple_joinable, divided_or_not, left_divides, normal_stays, multiple_multiple}

-- a smaller word, or zero
abbrev pub IsBelow : MonomialOrder → Exponents → WordOrZero → Type 0
IsBelow O w None = Unit {0}
IsBelow O w (Some v) = IsMonomial O.places v × (O.compare v w ≡ Less)

pub record IsDecreasingRule (O : MonomialOrder) (r : RewriteRule) : Type 0 where
  pub left : IsMonomial O.places r.left
  pub right : IsBelow O r.left r.right

-- zero, or a word of degree at most c
abbrev pub IsWithinDegree : (O : MonomialOrder) → IsMonomialOrder O → ℕ → WordOrZero → Type 0
IsWithinDegree O LO c None = Unit {0}
IsWithinDegree O LO c (Some w) = IsWithin O LO c w

-- a factor of a monomial is one
pub factor_monomial : (n : ℕ) (k m w : Exponents) → IsTrimmed k → IsMonomial n w → product k m ≡ w → IsMonomial n k
factor_monomial n k m w hk hw e =
    record { trimmed = hk; within = let l = length-product k m in let q : length (product k m) ≡ length w = ap length e in let h = hw.within in omega arith }

module _ (O : MonomialOrder) (LO : IsMonomialOrder O) (R : List RewriteRule) (decreasing : (r : RewriteRule) → Contains R r → IsDecreasingRule O r) where
  -- a rule whose left side divides the word rewrites it
  pub rule_step : (w : Exponents) → IsMonomial O.places w → HasLeftDivisor R w → (a : WordOrZero) × RewritesOnce R w a
  rule_step w hw d =
      let k = cofactor d.0.left w (decreasing d.0 d.1).left.trimmed hw.trimmed d.2 in
      (multiple k.0 d.0.right, record { rule = d.0; listed = d.1; by = record { cofactor = k.0; trimmed = k.1; word = product_comm k.0 d.0.left ∙ k.2; result = refl } })

  multiple_below : (k m w : Exponents) (a : WordOrZero) → IsTrimmed k → IsTrimmed m → IsMonomial O.places w → product k m ≡ w → IsBelow O m a → IsBelow O w (multiple k a)
  multiple_below k m w None hk hm hw e h = tt
  multiple_below k m w (Some v) hk hm hw e h = (
    IsMonomial-product O.places k v (factor_monomial O.places k m w hk hw e) h.0,
    subst (λ x. O.compare (product k v) x ≡ Less) e (LO.kept k v m hk h.0.trimmed hm ∙ h.1),
  )

  -- the result of a step is smaller
  pub step_below : (w : Exponents) (a : WordOrZero) → IsMonomial O.places w → RewritesOnce R w a → IsBelow O w a
  step_below w a hw s =
      subst (IsBelow O w) s.by.result
      (multiple_below s.by.cofactor s.rule.left w s.rule.right s.by.trimmed (decreasing s.rule s.listed).left.trimmed hw s.by.word (decreasing s.rule s.listed).right)

  module _ (c : ℕ) where
    pub below_within : (w v : Exponents) → IsWithin O LO c w → IsBelow O w (Some v) → IsWithin O LO c v
    below_within w v hw h = record { monomial = h.0; degree = let l = degree_falls O LO v w h.1 in let d = hw.degree in omega arith }

    pub step_within : (w : Exponents) (a : WordOrZero) → IsWithin O LO c w → RewritesOnce R w a → IsWithinDegree O LO c a
    step_within w a hw s = by_case a (step_below w a hw.monomial s)
      where
        by_case : (a : WordOrZero) → IsBelow O w a → IsWithinDegree O LO c a
        by_case None h = tt
        by_case (Some v) h = below_within w v hw h

    pub rewrites_within : {a b : WordOrZero} → Rewrites R a b → IsWithinDegree O LO c a → IsWithinDegree O LO c b
    rewrites_within stays h = h
    rewrites_within (steps {w = w} {a = a} s r) h = rewrites_within r (step_within w a h s)

    -- a word rewrites to itself and to what is below it
    pub rewrites_below : {a b : WordOrZero} → Rewrites R a b → (w : Exponents) → a ≡ Some w → IsWithin O LO c w → (b ≡ Some w) ⊎ IsBelow O w b
    rewrites_below stays w e h = inl e
    rewrites_below (steps {w = u} {a = a} {b = b} s r) w e h =
        by_case a s r (λ v q k. rewrites_below r v q k)
      where
        same : u ≡ w
        same = cc

        by_case : (a : WordOrZero) → RewritesOnce R u a → Rewrites R a b → ((v : Exponents) → a ≡ Some v → IsWithin O LO c v → (b ≡ Some v) ⊎ IsBelow O v b) → (b ≡ Some w) ⊎ IsBelow O w b
        by_case None s r ih = inr (subst (IsBelow O w) (sym (none_stays R r refl)) tt)
        by_case (Some v) s r ih =
            let below : IsBelow O w (Some v) = subst (λ x. IsBelow O x (Some v)) same (step_below u (Some v) (subst (IsMonomial O.places) (sym same) h.monomial) s) in
            ⊎_elim (λ q. inr (subst (IsBelow O w) (sym q) below)) (λ q. inr (on b below q)) (ih v refl (below_within w v h below))
          where
            on : (b : WordOrZero) → IsBelow O w (Some v) → IsBelow O v b → IsBelow O w b
            on None k q = tt
            on (Some y) k q = (q.0, LO.total.trans y v w q.1 k.1)

    -- each word has a normal form
    pub normal_word : (w : Exponents) → IsWithin O LO c w → (a : WordOrZero) × IsNormalForm R (Some w) a
    normal_word =
        below_induction O LO c (λ w. (a : WordOrZero) × IsNormalForm R (Some w) a)
        (λ w hw ih. ⊎_elim
        (λ d. let s = rule_step w hw.monomial d in by_case w hw ih s.0 s.1)
        (λ n. (Some w, record { rewrites = stays; normal = n })) (divided_or_not R w))
      where
        by_case : (w : Exponents) → IsWithin O LO c w → ((k : Exponents) → IsWithin O LO c k → O.compare k w ≡ Less → (a : WordOrZero) × IsNormalForm R (Some k) a) →
            (v : WordOrZero) → RewritesOnce R w v → (a : WordOrZero) × IsNormalForm R (Some w) a
        by_case w hw ih None s = (None, record { rewrites = steps s stays; normal = tt })
        by_case w hw ih (Some v) s =
            let b = step_below w (Some v) hw.monomial s in
            let r = ih v (below_within w v hw b) b.1 in
            (r.0, record { rewrites = steps s r.1.rewrites; normal = r.1.normal })

    pub normal : (a : WordOrZero) → IsWithinDegree O LO c a → (b : WordOrZero) × IsNormalForm R a b
    normal None h = (None, record { rewrites = stays; normal = tt })
    normal (Some w) h = normal_word w h

    -- the results of two steps are joinable if the critical pair of their rules is
    pub pair_steps : (w : Exponents) (a b : WordOrZero) → IsWithin O LO c w → (s : RewritesOnce R w a) (t : RewritesOnce R w b) → JoinsPair O R c s.rule t.rule → AreJoinable R a b
    pair_steps w a b hw s t pair =
        subst (λ x. AreJoinable R x b) first (subst (AreJoinable R (multiple q.0 (multiple u.0 s.rule.right))) second
        (multiple_joinable R q.0 (multiple u.0 s.rule.right) (multiple v.0 t.rule.right) q.1
        (pair small (multiple u.0 s.rule.right) (multiple v.0 t.rule.right) (
          record { cofactor = u.0; trimmed = u.1; word = product_comm u.0 s.rule.left ∙ u.2; result = refl },
          record { cofactor = v.0; trimmed = v.1; word = product_comm v.0 t.rule.left ∙ v.2; result = refl },
        ))))
      where
        left : IsTrimmed s.rule.left
        left = (decreasing s.rule s.listed).left.trimmed

        right : IsTrimmed t.rule.left
        right = (decreasing t.rule t.listed).left.trimmed

        whole : IsTrimmed (lcm s.rule.left t.rule.left)
        whole = IsTrimmed-least_common_multiple s.rule.left t.rule.left left right

        divides : Divides (lcm s.rule.left t.rule.left) w
        divides = least_common_multiple_least s.rule.left t.rule.left w (left_divides R w a s) (left_divides R w b t)

        q : (k : Exponents) × IsTrimmed k × (product k (lcm s.rule.left t.rule.left) ≡ w)
        q = let k = cofactor (lcm s.rule.left t.rule.left) w whole hw.monomial.trimmed divides in (k.0, k.1, product_comm k.0 (lcm s.rule.left t.rule.left) ∙ k.2)

        u : (k : Exponents) × IsTrimmed k × (product s.rule.left k ≡ lcm s.rule.left t.rule.left)
        u = cofactor s.rule.left (lcm s.rule.left t.rule.left) left whole (Divides-least_common_multiple s.rule.left t.rule.left)

        v : (k : Exponents) × IsTrimmed k × (product t.rule.left k ≡ lcm s.rule.left t.rule.left)
        v = cofactor t.rule.left (lcm s.rule.left t.rule.left) right whole (Divides-least_common_multiple_right s.rule.left t.rule.left)

        small : O.degree (lcm s.rule.left t.rule.left) ≤ c
        small = let d = divisor_degree O LO (lcm s.rule.left t.rule.left) w whole hw.monomial.trimmed divides in let e = hw.degree in omega arith

        side : (x y m f : Exponents) → IsTrimmed x → IsTrimmed y → IsTrimmed f → product m x ≡ lcm s.rule.left t.rule.left → product y (lcm s.rule.left t.rule.left) ≡ w → product f m ≡ w → product y x ≡ f
        side x y m f hx hy hf e k h =
            product_cancel_right (product y x) f m (IsTrimmed-product y x hy hx) hf
            (product_assoc y x m ∙ (ap (product y) (product_comm x m ∙ e) ∙ (k ∙ sym h)))

        first : multiple q.0 (multiple u.0 s.rule.right) ≡ a
        first = multiple_multiple q.0 u.0 s.rule.right ∙ (ap (λ x. multiple x s.rule.right) (side u.0 q.0 s.rule.left s.by.cofactor u.1 q.1 s.by.trimmed u.2 q.2 s.by.word) ∙ s.by.result)

        second : multiple q.0 (multiple v.0 t.rule.right) ≡ b
        second = multiple_multiple q.0 v.0 t.rule.right ∙ (ap (λ x. multiple x t.rule.right) (side v.0 q.0 t.rule.left t.by.cofactor v.1 q.1 t.by.trimmed v.2 q.2 t.by.word) ∙ t.by.result)

    module _ (pairs : JoinsPairs O R c) where
      steps_joinable : (w : Exponents) (a b : WordOrZero) → IsWithin O LO c w → RewritesOnce R w a → RewritesOnce R w b → AreJoinable R a b
      steps_joinable w a b hw s t = pair_steps w a b hw s t (pairs s.rule t.rule s.listed t.listed)

      -- normal forms are unique
      pub unique_word : (w : Exponents) → IsWithin O LO c w → (a b : WordOrZero) → IsNormalForm R (Some w) a → IsNormalForm R (Some w) b → a ≡ b
      unique_word =
          below_induction O LO c (λ w. (a b : WordOrZero) → IsNormalForm R (Some w) a → IsNormalForm R (Some w) b → a ≡ b)
          (λ w hw ih a b ha hb.
          ⊎_elim
          (λ e. e ∙ sym (normal_stays R hb.rewrites (subst (IsInNormalForm R) e ha.normal)))
          (λ x. ⊎_elim
          (λ e. normal_stays R ha.rewrites (subst (IsInNormalForm R) e hb.normal) ∙ sym e)
          (λ y.
          let j = steps_joinable w x.0 y.0 hw x.1 y.1 in
          let n = normal j.0 (rewrites_within j.1 (step_within w x.0 hw x.1)) in
          below w hw ih x.0 a n.0 (step_below w x.0 hw.monomial x.1) (record { rewrites = x.2; normal = ha.normal })
          (record { rewrites = rewrites_trans R j.1 n.1.rewrites; normal = n.1.normal }) ∙
          sym (below w hw ih y.0 b n.0 (step_below w y.0 hw.monomial y.1) (record { rewrites = y.2; normal = hb.normal })
          (record { rewrites = rewrites_trans R j.2 n.1.rewrites; normal = n.1.normal })))
          (first_step R hb.rewrites w refl))
          (first_step R ha.rewrites w refl))
        where
          below : (w : Exponents) → IsWithin O LO c w →
              ((k : Exponents) → IsWithin O LO c k → O.compare k w ≡ Less → (a b : WordOrZero) → IsNormalForm R (Some k) a → IsNormalForm R (Some k) b → a ≡ b) →
              (v a b : WordOrZero) → IsBelow O w v → IsNormalForm R v a → IsNormalForm R v b → a ≡ b
          below w hw ih None a b h ha hb = none_stays R ha.rewrites refl ∙ sym (none_stays R hb.rewrites refl)
          below w hw ih (Some v) a b h ha hb = ih v (below_within w v hw h) h.1 a b ha hb

      pub unique : (x a b : WordOrZero) → IsWithinDegree O LO c x → IsNormalForm R x a → IsNormalForm R x b → a ≡ b
      unique None a b h ha hb = none_stays R ha.rewrites refl ∙ sym (none_stays R hb.rewrites refl)
      unique (Some w) a b h ha hb = unique_word w h a b ha hb

      -- what is joinable with b has its normal forms
      pub joinable_normal : (a b n : WordOrZero) → IsWithinDegree O LO c a → IsWithinDegree O LO c b → AreJoinable R a b → IsNormalForm R b n → IsNormalForm R a n
      joinable_normal a b n ha hb j h =
          let m = normal j.0 (rewrites_within j.1 ha) in
          let e = unique b n m.0 hb h (record { rewrites = rewrites_trans R j.2 m.1.rewrites; normal = m.1.normal }) in
          record { rewrites = subst (Rewrites R a) (sym e) (rewrites_trans R j.1 m.1.rewrites); normal = h.normal }

      pub joinable_trans : (a b d : WordOrZero) → IsWithinDegree O LO c a → IsWithinDegree O LO c b → IsWithinDegree O LO c d → AreJoinable R a b → AreJoinable R b d → AreJoinable R a d
      joinable_trans a b d ha hb hd j k =
          let n = normal b hb in
          (n.0, (joinable_normal a b n.0 ha hb j n.1).rewrites, (joinable_normal d b n.0 hd hb (joinable_sym R b d k) n.1).rewrites)
