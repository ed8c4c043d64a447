-- Critical pairs that are joinable by themselves, and which pairs are enough.
use Rattle.std.proofs.Common.{◌≡◌, ℕ, zero, suc, ◌≤◌, ◌<◌, refl, sym, ◌∙◌, ap, subst, List, [], ◌∷◌, length, arith, get_or, ◌⊎◌, inl, inr, ⊎_elim, Some, None, Contains}
use Rattle.std.specs.Prelude.{AllPairs}
use Rattle.std.proofs.lemmas.List.{get_or_default}
use Rattle.monomial_order.specs.Monomial.{Exponents, product, least_common_multiple as lcm, IsTrimmed, AreCoprime}
use Rattle.monomial_order.specs.MonomialOrder.{MonomialOrder}
use Rattle.monomial_order.specs.laws.Monomial.{product_comm, IsTrimmed-least_common_multiple as IsTrimmed-lcm, least_common_multiple_comm as lcm_comm}
use Rattle.monomial_order.specs.laws.Cofactors.{cofactor, Divides-least_common_multiple, Divides-least_common_multiple_right, product_cancel_right, least_common_multiple_coprime as lcm_coprime}
use Rattle.monomial_order.specs.laws.Comparing.{le_or_not}
use Rattle.word_rewriting.specs.Rewriting.{WordOrZero, RewriteRule, RewritesBy, Rewrites, stays, steps, AreJoinable, IsCriticalPair, HasJoinablePair, JoinsPair, JoinsPairs, multiple}
use Rattle.word_rewriting.specs.laws.Rewriting.{joinable_itself, joinable_sym}
use Rattle.word_rewriting.specs.laws.Confluence.{IsBelow, IsDecreasingRule}

-- a rule has one result for a word
pub one_result : (r : RewriteRule) (w : Exponents) (a b : WordOrZero) → RewritesBy r w a → RewritesBy r w b → a ≡ b
one_result r w a b h k =
    let e = product_cancel_right h.cofactor k.cofactor r.left h.trimmed k.trimmed (h.word ∙ sym k.word) in
    sym h.result ∙ (ap (λ x. multiple x r.right) e ∙ k.result)

-- so two rules have one critical pair
pub one_pair : (r s : RewriteRule) (a b x y : WordOrZero) → IsCriticalPair r s a b → IsCriticalPair r s x y → (a ≡ x) × (b ≡ y)
one_pair r s a b x y h k = (one_result r (lcm r.left s.left) a x h.0 k.0, one_result s (lcm r.left s.left) b y h.1 k.1)

pub joinable_pair : (R : List RewriteRule) (r s : RewriteRule) (a b : WordOrZero) → IsCriticalPair r s a b → AreJoinable R a b → HasJoinablePair R r s
joinable_pair R r s a b h j x y k =
    let e = one_pair r s a b x y h k in
    subst (λ z. AreJoinable R z y) e.0 (subst (AreJoinable R a) e.1 j)

pub pair_exists : (r s : RewriteRule) → IsTrimmed r.left → IsTrimmed s.left → (a : WordOrZero) × (b : WordOrZero) × IsCriticalPair r s a b
pair_exists r s hr hs =
    let l = lcm r.left s.left in
    let t = IsTrimmed-lcm r.left s.left hr hs in
    let u = cofactor r.left l hr t (Divides-least_common_multiple r.left s.left) in
    let v = cofactor s.left l hs t (Divides-least_common_multiple_right r.left s.left) in (
      multiple u.0 r.right,
      multiple v.0 s.right,
      (
        record { cofactor = u.0; trimmed = u.1; word = product_comm u.0 r.left ∙ u.2; result = refl },
        record { cofactor = v.0; trimmed = v.1; word = product_comm v.0 s.left ∙ v.2; result = refl },
      ),
    )

-- a rule rewrites a multiple of its left side
pub rewrites_multiple : (R : List RewriteRule) (r : RewriteRule) (k : Exponents) → Contains R r → IsTrimmed k → Rewrites R (Some (product k r.left)) (multiple k r.right)
rewrites_multiple R r k h hk = steps (record { rule = r; listed = h; by = record { cofactor = k; trimmed = hk; word = refl; result = refl } }) stays

module _ (R : List RewriteRule) (r s : RewriteRule) (hr : Contains R r) (hs : Contains R s) where
  -- the right side of each, times the left side of the other
  sides_joinable : (a b : WordOrZero) → IsTrimmed r.left → IsTrimmed s.left → ((v : Exponents) → a ≡ Some v → IsTrimmed v) → ((v : Exponents) → b ≡ Some v → IsTrimmed v) →
      r.right ≡ a → s.right ≡ b → AreJoinable R (multiple s.left a) (multiple r.left b)
  sides_joinable None None hl hm ha hb ea eb = joinable_itself R None
  sides_joinable None (Some v) hl hm ha hb ea eb =
      (None, stays, subst (λ x. Rewrites R (Some x) None) (product_comm v r.left) (subst (Rewrites R (Some (product v r.left))) (ap (multiple v) ea) (rewrites_multiple R r v hr (hb v refl))))
  sides_joinable (Some u) None hl hm ha hb ea eb =
      (None, subst (λ x. Rewrites R (Some x) None) (product_comm u s.left) (subst (Rewrites R (Some (product u s.left))) (ap (multiple u) eb) (rewrites_multiple R s u hs (ha u refl))), stays)
  sides_joinable (Some u) (Some v) hl hm ha hb ea eb = (
    Some (product u v),
    subst (λ x. Rewrites R (Some x) (Some (product u v))) (product_comm u s.left) (subst (Rewrites R (Some (product u s.left))) (ap (multiple u) eb) (rewrites_multiple R s u hs (ha u refl))),
    subst (λ x. Rewrites R (Some x) (Some (product u v))) (product_comm v r.left)
        (subst (Rewrites R (Some (product v r.left))) (ap (multiple v) ea ∙ ap Some (product_comm v u)) (rewrites_multiple R r v hr (hb v refl))),
  )

right_trimmed : (O : MonomialOrder) (w : Exponents) (a : WordOrZero) → IsBelow O w a → (v : Exponents) → a ≡ Some v → IsTrimmed v
right_trimmed O w None h v e = absurd cc
right_trimmed O w (Some u) h v e = subst IsTrimmed (let q : u ≡ v = cc in q) h.0.trimmed

-- the pair of two rules in the other order, and of a rule with itself
pair_turned : (r s : RewriteRule) (a b : WordOrZero) → IsCriticalPair r s a b → IsCriticalPair s r b a
pair_turned r s a b p =
    (subst (λ l. RewritesBy s l b) (lcm_comm r.left s.left) p.1, subst (λ l. RewritesBy r l a) (lcm_comm r.left s.left) p.0)

pub pair_itself : (R : List RewriteRule) (r s : RewriteRule) (a b : WordOrZero) → IsTrimmed r.left → r ≡ s → IsCriticalPair r s a b → AreJoinable R a b
pair_itself R r s a b h e p =
    subst (AreJoinable R a) (sym p.0.result ∙ (ap (λ k. multiple k r.right) same ∙ (ap (λ x. multiple p.1.cofactor x.right) e ∙ p.1.result))) (joinable_itself R a)
  where
    same : p.0.cofactor ≡ p.1.cofactor
    same = product_cancel_right p.0.cofactor p.1.cofactor r.left p.0.trimmed p.1.trimmed (p.0.word ∙ (sym p.1.word ∙ ap (λ x. product p.1.cofactor x.left) (sym e)))

coprime_or_not : (m n : Exponents) → AreCoprime m n ⊎ (AreCoprime m n → ⊥)
coprime_or_not [] n = inl (λ i. inl refl)
coprime_or_not (a ∷ m) [] = inl (λ i. inr refl)
coprime_or_not (a ∷ m) (b ∷ n) =
    ⊎_elim
    (λ z. ⊎_elim (λ h. inl (both a b m n z h)) (λ h. inr (λ k. h (λ i. k (suc i)))) (coprime_or_not m n))
    (λ z. inr (λ k. z (k 0)))
    (first a b)
  where
    first : (a b : ℕ) → ((a ≡ 0) ⊎ (b ≡ 0)) ⊎ (((a ≡ 0) ⊎ (b ≡ 0)) → ⊥)
    first zero b = inl (inl refl)
    first (suc a) zero = inl (inr refl)
    first (suc a) (suc b) = inr (λ h. ⊎_elim (λ e. positive a e) (λ e. positive b e) h)
      where
        positive : (x : ℕ) → suc x ≡ 0 → ⊥
        positive x e = omega arith

    both : (a b : ℕ) (m n : Exponents) → (a ≡ 0) ⊎ (b ≡ 0) → AreCoprime m n → AreCoprime (a ∷ m) (b ∷ n)
    both a b m n z h zero = z
    both a b m n z h (suc i) = h i

pub trichotomy : (i j : ℕ) → (i < j) ⊎ ((i ≡ j) ⊎ (j < i))
trichotomy i j = ⊎_elim (λ l. ⊎_elim (λ k. inr (inl (omega arith))) (λ k. inl (omega (arith, k))) (le_or_not j i)) (λ l. inr (inr (omega (arith, l)))) (le_or_not i j)

module _ (O : MonomialOrder) (R : List RewriteRule) (decreasing : (r : RewriteRule) → Contains R r → IsDecreasingRule O r) where
  -- rules with coprime left sides have a joinable pair
  pub coprime_joinable : (r s : RewriteRule) → Contains R r → Contains R s → AreCoprime r.left s.left → (a b : WordOrZero) → IsCriticalPair r s a b → AreJoinable R a b
  coprime_joinable r s hr hs h a b p =
      subst (λ x. AreJoinable R x b) (ap (λ k. multiple k r.right) (sym first) ∙ p.0.result)
      (subst (AreJoinable R (multiple s.left r.right)) (ap (λ k. multiple k s.right) (sym second) ∙ p.1.result)
      (sides_joinable R r s hr hs r.right s.right hl hm (right_trimmed O r.left r.right (decreasing r hr).right) (right_trimmed O s.left s.right (decreasing s hs).right) refl refl))
    where
      hl : IsTrimmed r.left
      hl = (decreasing r hr).left.trimmed

      hm : IsTrimmed s.left
      hm = (decreasing s hs).left.trimmed

      first : p.0.cofactor ≡ s.left
      first = product_cancel_right p.0.cofactor s.left r.left p.0.trimmed hm (p.0.word ∙ (lcm_coprime r.left s.left hl hm h ∙ product_comm r.left s.left))

      second : p.1.cofactor ≡ r.left
      second = product_cancel_right p.1.cofactor r.left s.left p.1.trimmed hl (p.1.word ∙ lcm_coprime r.left s.left hl hm h)

  -- the pairs of each rule with the later ones are enough, if their left sides are not coprime
  pub pairs_enough : (c : ℕ) → AllPairs (λ r s. ¬ AreCoprime r.left s.left → JoinsPair O R c r s) R → JoinsPairs O R c
  pairs_enough c all r s hr hs d a b p = by_order hr.0 hs.0 hr.1 hs.1 hr.2 hs.2
    where
      later : (i j : ℕ) (t u : RewriteRule) → Contains R t → Contains R u → i < j → j < length R → get_or R i t ≡ t → get_or R j u ≡ u →
          O.degree (lcm t.left u.left) ≤ c → (a b : WordOrZero) → IsCriticalPair t u a b → AreJoinable R a b
      later i j t u ht hu lt lj et eu d a b p =
          ⊎_elim (λ k. coprime_joinable t u ht hu k a b p)
          (λ k.
          let q : get_or R j t ≡ u = get_or_default R j t u lj ∙ eu in
          subst (λ x. JoinsPair O R c t x) q
          (subst (λ x. JoinsPair O R c x (get_or R j t)) et
          (all i j t lt lj (subst (λ x. ¬ AreCoprime x.left (get_or R j t).left) (sym et) (subst (λ x. ¬ AreCoprime t.left x.left) (sym q) k))))
          d a b p)
          (coprime_or_not t.left u.left)

      by_order : (i j : ℕ) → i < length R → j < length R → get_or R i r ≡ r → get_or R j s ≡ s → AreJoinable R a b
      by_order i j li lj er es =
          ⊎_elim (λ l. later i j r s hr hs l lj er es d a b p)
          (λ o. ⊎_elim
          (λ e. pair_itself R r s a b (decreasing r hr).left.trimmed (sym er ∙ (ap (λ k. get_or R k r) e ∙ (get_or_default R j r s lj ∙ es))) p)
          (λ l. joinable_sym R b a (later j i s r hs hr l li es er
          (subst (λ x. O.degree x ≤ c) (lcm_comm r.left s.left) d) b a (pair_turned r s a b p))) o)
          (trichotomy i j)
