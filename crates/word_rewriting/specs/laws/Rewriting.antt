-- Rewriting by any rules.
use Rattle.std.proofs.Common.{◌≡◌, refl, sym, ◌∙◌, ap, subst, List, [], ◌⊎◌, inl, inr, ⊎_elim, Some, None, Contains}
use Rattle.monomial_order.specs.Monomial.{Exponents, product, IsTrimmed, Divides}
use Rattle.monomial_order.specs.laws.Monomial.{product_assoc, IsTrimmed-product}
use Rattle.monomial_order.specs.laws.Cofactors.{divides_or_not, Divides-product_right}
use Rattle.monomial_order.specs.laws.Lists.{find_member}
use Rattle.monomial_order.specs.laws.Comparing.{equal_or_not}
use Rattle.word_rewriting.specs.Rewriting.{WordOrZero, RewriteRule, RewritesOnce, Rewrites, stays, steps, AreJoinable, HasLeftDivisor, IsInNormalForm, multiple, KeepsRules}

pub same_or_not : (a b : WordOrZero) → (a ≡ b) ⊎ (a ≡ b → ⊥)
same_or_not None None = inl refl
same_or_not None (Some v) = inr (λ e. cc)
same_or_not (Some u) None = inr (λ e. cc)
same_or_not (Some u) (Some v) = ⊎_elim (λ e. inl (ap Some e)) (λ n. inr (λ e. n (let q : u ≡ v = cc in q))) (equal_or_not u v)

pub multiple_multiple : (k q : Exponents) (a : WordOrZero) → multiple k (multiple q a) ≡ multiple (product k q) a
multiple_multiple k q None = refl
multiple_multiple k q (Some v) = ap Some (sym (product_assoc k q v))

module _ (R : List RewriteRule) where
  pub rewrites_trans : {a b d : WordOrZero} → Rewrites R a b → Rewrites R b d → Rewrites R a d
  rewrites_trans stays k = k
  rewrites_trans (steps s r) k = steps s (rewrites_trans r k)

  pub joinable_itself : (a : WordOrZero) → AreJoinable R a a
  joinable_itself a = (a, stays, stays)

  pub joinable_sym : (a b : WordOrZero) → AreJoinable R a b → AreJoinable R b a
  joinable_sym a b h = (h.0, h.2, h.1)

  -- the first step, if there is one
  pub first_step : {x a : WordOrZero} → Rewrites R x a → (w : Exponents) → x ≡ Some w → (a ≡ Some w) ⊎ ((v : WordOrZero) × RewritesOnce R w v × Rewrites R v a)
  first_step stays w e = inl e
  first_step (steps {w = u} {a = v} s r) w e = inr (v, subst (λ x. RewritesOnce R x v) (let q : u ≡ w = cc in q) s, r)

  pub none_stays : {x a : WordOrZero} → Rewrites R x a → x ≡ None → a ≡ None
  none_stays stays e = e
  none_stays (steps s r) e = absurd cc

  pub multiple_step : (k w : Exponents) (a : WordOrZero) → IsTrimmed k → RewritesOnce R w a → RewritesOnce R (product k w) (multiple k a)
  multiple_step k w a hk s = record {
    rule = s.rule;
    listed = s.listed;
    by = record {
      cofactor = product k s.by.cofactor;
      trimmed = IsTrimmed-product k s.by.cofactor hk s.by.trimmed;
      word = product_assoc k s.by.cofactor s.rule.left ∙ ap (product k) s.by.word;
      result = sym (multiple_multiple k s.by.cofactor s.rule.right) ∙ ap (multiple k) s.by.result;
    };
  }

  pub multiple_rewrites : {a b : WordOrZero} (k : Exponents) → IsTrimmed k → Rewrites R a b → Rewrites R (multiple k a) (multiple k b)
  multiple_rewrites k hk stays = stays
  multiple_rewrites k hk (steps {w = w} {a = a} s r) = steps (multiple_step k w a hk s) (multiple_rewrites k hk r)

  pub multiple_joinable : (k : Exponents) (a b : WordOrZero) → IsTrimmed k → AreJoinable R a b → AreJoinable R (multiple k a) (multiple k b)
  multiple_joinable k a b hk h = (multiple k h.0, multiple_rewrites k hk h.1, multiple_rewrites k hk h.2)

  pub divided_or_not : (w : Exponents) → HasLeftDivisor R w ⊎ (HasLeftDivisor R w → ⊥)
  divided_or_not w =
      ⊎_elim (λ h. inl (h.0, h.1, h.2)) (λ h. inr (λ d. h d.0 d.1 d.2)) (find_member (λ (r : RewriteRule). Divides r.left w) (λ r. divides_or_not r.left w) R)

  pub left_divides : (w : Exponents) (a : WordOrZero) (s : RewritesOnce R w a) → Divides s.rule.left w
  left_divides w a s = subst (Divides s.rule.left) s.by.word (Divides-product_right s.by.cofactor s.rule.left)

  pub step_divides : (w : Exponents) (a : WordOrZero) → RewritesOnce R w a → HasLeftDivisor R w
  step_divides w a s = (s.rule, s.listed, left_divides w a s)

  pub normal_stays : {x a : WordOrZero} → Rewrites R x a → IsInNormalForm R x → a ≡ x
  normal_stays stays d = refl
  normal_stays (steps {w = w} {a = a} s r) d = absurd (d (step_divides w a s))

-- a rule rewrites its left side
pub rule_rewrites : (R : List RewriteRule) (t : RewriteRule) → Contains R t → Rewrites R (Some t.left) t.right
rule_rewrites R t h = steps (record { rule = t; listed = h; by = record { cofactor = []; trimmed = tt; word = refl; result = once t.right } }) stays
  where
    once : (a : WordOrZero) → multiple [] a ≡ a
    once None = refl
    once (Some v) = refl

-- more rules rewrite more
more_once : (R S : List RewriteRule) → KeepsRules R S → (w : Exponents) (a : WordOrZero) → RewritesOnce R w a → RewritesOnce S w a
more_once R S h w a s = record { rule = s.rule; listed = h s.rule s.listed; by = s.by }

pub more_rewrites : (R S : List RewriteRule) → KeepsRules R S → {a b : WordOrZero} → Rewrites R a b → Rewrites S a b
more_rewrites R S h stays = stays
more_rewrites R S h (steps {w = w} {a = a} s r) = steps (more_once R S h w a s) (more_rewrites R S h r)

pub more_joinable : (R S : List RewriteRule) → KeepsRules R S → (a b : WordOrZero) → AreJoinable R a b → AreJoinable S a b
more_joinable R S h a b j = (j.0, more_rewrites R S h j.1, more_rewrites R S h j.2)
