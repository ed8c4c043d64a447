-- If each two rules are connected by joinable pairs, all critical pairs are joinable.
use Rattle.std.proofs.Common.{◌≡◌, ℕ, ◌≤◌, ◌<◌, refl, sym, ◌∙◌, ap, subst, List, length, get_or, arith, inr, ⊎_elim, Some, None, Contains}
use Rattle.std.specs.Prelude.{AllPairs}
use Rattle.std.specs.declared.cmp.Ordering.TheVariants.{Less}
use Rattle.std.proofs.lemmas.List.{get_or_default}
use Rattle.monomial_order.specs.Monomial.{Exponents, Divides, least_common_multiple as lcm}
use Rattle.monomial_order.specs.MonomialOrder.{MonomialOrder, IsMonomialOrder}
use Rattle.monomial_order.specs.laws.Monomial.{product_comm, IsTrimmed-least_common_multiple as IsTrimmed-lcm, IsMonomial-least_common_multiple as IsMonomial-lcm, least_common_multiple_comm as lcm_comm}
use Rattle.monomial_order.specs.laws.Cofactors.{cofactor, Divides-trans, least_common_multiple_least, Divides-least_common_multiple, Divides-least_common_multiple_right}
use Rattle.monomial_order.specs.laws.Comparing.{divisor_degree}
use Rattle.monomial_order.specs.laws.Rank.{IsWithin, below_induction}
use Rattle.word_rewriting.specs.Rewriting.{WordOrZero, RewriteRule, RewritesBy, RewritesOnce, Rewrites, steps, IsInNormalForm, IsNormalForm, JoinsPair, JoinsPairs, multiple}
use Rattle.word_rewriting.specs.Completion.{RulePair, IsJoinableOrListed, AreConnected, directly, turned, through, HasConnectedPair, AreAbove}
use Rattle.word_rewriting.specs.laws.Rewriting.{rewrites_trans, first_step, none_stays, normal_stays, left_divides}
use Rattle.word_rewriting.specs.laws.Confluence.{IsBelow, IsDecreasingRule, step_below, step_within, rewrites_within, below_within, normal, pair_steps}
use Rattle.word_rewriting.specs.laws.Pairs.{coprime_joinable, pair_itself, trichotomy}

-- what is connected below l is connected below the multiples of l
pub lift : (R : List RewriteRule) (pairs : List RulePair) (l m : Exponents) → Divides l m → {r s : RewriteRule} → AreConnected R pairs l r s → AreConnected R pairs m r s
lift R pairs l m d (directly x) = directly x
lift R pairs l m d (turned x) = turned (lift R pairs l m d x)
lift R pairs l m d (through t ht dt x y) = through t ht (Divides-trans t.left l m dt d) (lift R pairs l m d x) (lift R pairs l m d y)

-- the chain criterion: a rule whose left side divides the least common multiple connects two others
pub chain : (R : List RewriteRule) (pairs : List RulePair) (r t s : RewriteRule) → Contains R t → Divides t.left (lcm r.left s.left) →
    HasConnectedPair R pairs r t → HasConnectedPair R pairs t s → HasConnectedPair R pairs r s
chain R pairs r t s ht d h k =
    let l = lcm r.left s.left in
    through t ht d
    (lift R pairs (lcm r.left t.left) l (least_common_multiple_least r.left t.left l (Divides-least_common_multiple r.left s.left) d) h)
    (lift R pairs (lcm t.left s.left) l (least_common_multiple_least t.left s.left l d (Divides-least_common_multiple_right r.left s.left)) k)

module _ (O : MonomialOrder) (LO : IsMonomialOrder O) (R : List RewriteRule) (decreasing : (r : RewriteRule) → Contains R r → IsDecreasingRule O r)
    (c : ℕ) (pairs : List RulePair) (above : AreAbove O c pairs) where
  -- a pair that is coprime, listed or joinable is joinable to the degree c
  direct_joins : (r s : RewriteRule) → Contains R r → Contains R s → IsJoinableOrListed R pairs r s → JoinsPair O R c r s
  direct_joins r s hr hs h low =
      ⊎_elim (λ k a b p. coprime_joinable O R decreasing r s hr hs k a b p)
      (λ k. ⊎_elim (λ l. absurd (let d = above r s l in omega arith)) (λ j. j) k) h

  -- normal forms of a word are unique
  abbrev HasOneForm : Exponents → Type 0
  HasOneForm w = (a b : WordOrZero) → IsNormalForm R (Some w) a → IsNormalForm R (Some w) b → a ≡ b

  abbrev AreSmallerOnes : Exponents → Type 0
  AreSmallerOnes w = (k : Exponents) → IsWithin O LO c k → O.compare k w ≡ Less → HasOneForm k

  below_one : (w : Exponents) → IsWithin O LO c w → AreSmallerOnes w → (v a b : WordOrZero) → IsBelow O w v → IsNormalForm R v a → IsNormalForm R v b → a ≡ b
  below_one w hw ih None a b h ha hb = none_stays R ha.rewrites refl ∙ sym (none_stays R hb.rewrites refl)
  below_one w hw ih (Some v) a b h ha hb = ih v (below_within O LO R decreasing c w v hw h) h.1 a b ha hb

  -- the results of two steps by connected rules have the same normal form
  connected_forms : (l w : Exponents) {r s : RewriteRule} → AreConnected R pairs l r s → IsWithin O LO c w → AreSmallerOnes w → Divides l w →
      Contains R r → Contains R s → (x y : WordOrZero) → RewritesBy r w x → RewritesBy s w y → (n m : WordOrZero) → IsNormalForm R x n → IsNormalForm R y m → n ≡ m
  connected_forms l w (directly {r = r} {s = s} h) hw ih d hr hs x y hx hy n m hn hm =
      let sx : RewritesOnce R w x = record { rule = r; listed = hr; by = hx } in
      let sy : RewritesOnce R w y = record { rule = s; listed = hs; by = hy } in
      let j = pair_steps O LO R decreasing c w x y hw sx sy (direct_joins r s hr hs h) in
      let k = normal O LO R decreasing c j.0 (rewrites_within O LO R decreasing c j.1 (step_within O LO R decreasing c w x hw sx)) in
      below_one w hw ih x n k.0 (step_below O LO R decreasing w x hw.monomial sx) hn (record { rewrites = rewrites_trans R j.1 k.1.rewrites; normal = k.1.normal }) ∙
      sym (below_one w hw ih y m k.0 (step_below O LO R decreasing w y hw.monomial sy) hm (record { rewrites = rewrites_trans R j.2 k.1.rewrites; normal = k.1.normal }))
  connected_forms l w (turned h) hw ih d hr hs x y hx hy n m hn hm = sym (connected_forms l w h hw ih d hs hr y x hy hx m n hm hn)
  connected_forms l w (through t ht dt h k) hw ih d hr hs x y hx hy n m hn hm =
      let q = cofactor t.left w (decreasing t ht).left.trimmed hw.monomial.trimmed (Divides-trans t.left l w dt d) in
      let z : WordOrZero = multiple q.0 t.right in
      let hz : RewritesBy t w z = record { cofactor = q.0; trimmed = q.1; word = product_comm q.0 t.left ∙ q.2; result = refl } in
      let sz : RewritesOnce R w z = record { rule = t; listed = ht; by = hz } in
      let f = normal O LO R decreasing c z (step_within O LO R decreasing c w z hw sz) in
      connected_forms l w h hw ih d hr ht x z hx hz n f.0 hn f.1 ∙ connected_forms l w k hw ih d ht hs z y hz hy f.0 m f.1 hm

  module _ (connected : (r s : RewriteRule) → Contains R r → Contains R s → O.degree (lcm r.left s.left) ≤ c → HasConnectedPair R pairs r s) where
    one_form : (w : Exponents) → IsWithin O LO c w → HasOneForm w
    one_form =
        below_induction O LO c HasOneForm
        (λ w hw ih a b ha hb.
        ⊎_elim (λ e. e ∙ sym (normal_stays R hb.rewrites (subst (λ x. IsInNormalForm R x) e ha.normal)))
        (λ x. ⊎_elim (λ e. normal_stays R ha.rewrites (subst (λ x. IsInNormalForm R x) e hb.normal) ∙ sym e)
        (λ y.
        let divides = least_common_multiple_least x.1.rule.left y.1.rule.left w (left_divides R w x.0 x.1) (left_divides R w y.0 y.1) in
        connected_forms (lcm x.1.rule.left y.1.rule.left) w
        (connected x.1.rule y.1.rule x.1.listed y.1.listed
        (let e = divisor_degree O LO (lcm x.1.rule.left y.1.rule.left) w
        (IsTrimmed-lcm x.1.rule.left y.1.rule.left (decreasing x.1.rule x.1.listed).left.trimmed (decreasing y.1.rule y.1.listed).left.trimmed) hw.monomial.trimmed divides in
        let f = hw.degree in omega arith))
        hw ih divides x.1.listed y.1.listed x.0 y.0 x.1.by y.1.by a b (record { rewrites = x.2; normal = ha.normal }) (record { rewrites = y.2; normal = hb.normal }))
        (first_step R hb.rewrites w refl)) (first_step R ha.rewrites w refl))

    -- connected pairs are joinable
    pub connected_joins : JoinsPairs O R c
    connected_joins r s hr hs low a b p =
        let l = lcm r.left s.left in
        let hl : IsWithin O LO c l = record { monomial = IsMonomial-lcm O.places r.left s.left (decreasing r hr).left (decreasing s hs).left; degree = low } in
        let sa : RewritesOnce R l a = record { rule = r; listed = hr; by = p.0 } in
        let sb : RewritesOnce R l b = record { rule = s; listed = hs; by = p.1 } in
        let n = normal O LO R decreasing c a (step_within O LO R decreasing c l a hl sa) in
        let m = normal O LO R decreasing c b (step_within O LO R decreasing c l b hl sb) in
        let e = one_form l hl n.0 m.0 (record { rewrites = steps sa n.1.rewrites; normal = n.1.normal }) (record { rewrites = steps sb m.1.rewrites; normal = m.1.normal }) in
        (n.0, n.1.rewrites, subst (Rewrites R b) (sym e) m.1.rewrites)

  -- the pairs of each rule with the later ones are enough
  pub later_connected : AllPairs (HasConnectedPair R pairs) R → JoinsPairs O R c
  later_connected all = connected_joins (λ r s hr hs low. by_order hr.0 hs.0 r s hr hs hr.1 hs.1 hr.2 hs.2)
    where
      later : (i j : ℕ) (r s : RewriteRule) → i < j → j < length R → get_or R i r ≡ r → get_or R j s ≡ s → HasConnectedPair R pairs r s
      later i j r s lt lj er es =
          subst (HasConnectedPair R pairs r) (get_or_default R j r s lj ∙ es)
          (subst (λ x. HasConnectedPair R pairs x (get_or R j r)) er (all i j r lt lj))

      by_order : (i j : ℕ) (r s : RewriteRule) → Contains R r → Contains R s → i < length R → j < length R → get_or R i r ≡ r → get_or R j s ≡ s → HasConnectedPair R pairs r s
      by_order i j r s hr hs li lj er es =
          ⊎_elim (λ l. later i j r s l lj er es)
          (λ o. ⊎_elim
          (λ e. directly (inr (inr (λ a b p. pair_itself R r s a b (decreasing r hr).left.trimmed (sym er ∙ (ap (λ k. get_or R k r) e ∙ (get_or_default R j r s lj ∙ es))) p))))
          (λ l. turned (subst (λ x. AreConnected R pairs x s r) (lcm_comm s.left r.left) (later j i s r l li es er))) o)
          (trichotomy i j)
